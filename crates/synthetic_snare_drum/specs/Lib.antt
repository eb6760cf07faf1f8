-- The definitions of `synthetic_snare_drum`.
pub mod SyntheticSnareDrum
pub mod StrikeThenRun
pub mod AnyBlockLength
pub mod Parts
