-- What the proofs of several functions use.
pub mod Spelling
pub mod Decoded
pub mod Names
pub mod Table
pub mod Atoms
