-- What the proofs of several functions use.
pub mod Limiting
pub mod Tallying
pub mod Gathering
