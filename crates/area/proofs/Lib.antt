-- What the proofs of several functions use.
pub mod Copies
pub mod Walks
pub mod Tidied
pub mod Schemas
pub mod Whole
pub mod Good
pub mod Writes
pub mod States
