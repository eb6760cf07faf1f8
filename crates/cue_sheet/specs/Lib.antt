-- The definitions of `cue_sheet`.
pub mod Answer
pub mod Fields
pub mod CueLine
pub mod Knobs
pub mod Sheet
pub mod Walks
