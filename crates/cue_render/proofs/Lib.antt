-- The laws of `cue_render` beside the proofs of its functions.
mod Fill
mod Next
mod Pass
mod Voices
mod NeverRefused
pub mod OwnLines
