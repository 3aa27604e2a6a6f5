pub mod CodeCalls
