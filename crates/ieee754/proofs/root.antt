-- The laws of the square root: what is rounded, and that the result is nearest to the root.
mod Cut
mod Nearest
