-- The definitions of `filter`.
pub mod OnePole
pub mod Svf
