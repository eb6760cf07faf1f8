-- The definitions of `track`.
pub mod Mix
pub mod Track
pub mod OwnLines
pub mod Letters
pub mod Lawful
pub mod Own
