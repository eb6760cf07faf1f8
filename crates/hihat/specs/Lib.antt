-- The definitions of `hihat`.
pub mod SquareNoise
pub mod Hihat
pub mod StrikeThenRun
pub mod AnyBlockLength
pub mod OnePass
