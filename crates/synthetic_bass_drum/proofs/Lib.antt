-- The laws of `synthetic_bass_drum` beside the proofs of its functions.
pub mod AnyBlockLength
