-- The definitions of `cue_render`.
pub mod Voices
pub mod Render
pub mod Calls
pub mod OwnLines
pub mod Run
