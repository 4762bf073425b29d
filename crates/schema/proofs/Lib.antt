-- What the proofs of several functions use.
pub mod Members
pub mod Reading
pub mod Tidying
