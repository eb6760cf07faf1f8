-- The definitions of `console`.
pub mod Enums
pub mod Sheet
