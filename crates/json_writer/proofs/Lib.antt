-- What the proofs of several functions use.
pub mod Putting
pub mod Digits
pub mod Escapes
pub mod Pieces
pub mod Joins
