-- The laws of `text` beside the proofs of its functions.
pub mod Digits
pub mod Lines
pub mod Numeral
pub mod Written
