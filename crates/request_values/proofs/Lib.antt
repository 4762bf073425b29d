-- What the proofs of several functions use.
pub mod Judging
pub mod Fits
