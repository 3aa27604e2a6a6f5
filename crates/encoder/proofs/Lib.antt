mod Spread
mod Rounds
mod Parts
