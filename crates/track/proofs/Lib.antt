-- The laws of `track`.
pub mod Mixed
pub mod Cues
pub mod Laws
pub mod Accepts
pub mod Alone
pub mod OwnLines
pub mod MovedCue
