-- The definitions of `text`.
pub mod Read
pub mod Write
pub mod Writer
