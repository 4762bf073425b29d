-- What the proofs of several functions use.
pub mod Levels
pub mod Mono
pub mod Empty
pub mod Whole
