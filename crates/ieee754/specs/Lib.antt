-- The definitions of `ieee754`.
pub mod Choosing
pub mod MinMaxLaws
pub mod Operations
pub mod Root
pub mod Single
