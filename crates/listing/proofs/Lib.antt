-- The laws of `listing` beside the proofs of its functions.
mod Lengths
mod Rows
mod SheetListing
