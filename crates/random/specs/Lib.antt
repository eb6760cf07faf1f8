-- The definitions of `random`.
pub mod Random
