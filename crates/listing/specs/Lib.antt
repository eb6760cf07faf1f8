-- The definitions of `listing`.
pub mod Cues
pub mod Draws
