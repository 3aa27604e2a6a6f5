pub mod ZeroFrames
