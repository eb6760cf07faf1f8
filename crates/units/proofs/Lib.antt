-- The laws of `units` beside the proofs of its functions.
mod Powers
mod Table
mod Fractions
mod Entries
mod PitchPlaces
mod Product
mod Accuracy
