-- The definitions of `units`.
pub mod Tables
pub mod Units
pub mod Accuracy
