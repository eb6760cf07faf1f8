-- The laws of `draw_request` beside the proofs of its functions.
pub mod Requests
