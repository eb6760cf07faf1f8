-- The laws of `hihat` beside the proofs of its functions.
mod OnePass
mod Six
pub mod Rate
pub mod AnyBlockLength
pub mod StrikeThenRun
