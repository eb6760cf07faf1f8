-- The laws of `cue_sheet` beside the proofs of its functions.
pub mod Fields
pub mod FirstLines
pub mod Questions
pub mod Walks
