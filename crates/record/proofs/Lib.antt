-- What the proofs of several functions use.
pub mod Laws
pub mod Readings
pub mod Listings
pub mod Soundness
