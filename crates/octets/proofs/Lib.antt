-- What the proofs of several functions use.
pub mod Laws
pub mod Rests
pub mod Orders
