-- The definitions of `utils`.
pub mod Utils
