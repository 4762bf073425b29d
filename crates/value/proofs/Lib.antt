-- What the proofs of several functions use.
pub mod Library
pub mod Order
pub mod Fours
pub mod Counts
pub mod Forms
pub mod Alike
