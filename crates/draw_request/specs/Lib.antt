-- The definitions of `draw_request`.
pub mod Requests
