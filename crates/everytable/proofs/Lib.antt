pub mod EveryTable
