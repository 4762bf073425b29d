-- What the proofs of several functions use.
pub mod Pushing
pub mod Units
pub mod Matching
pub mod Sizes
pub mod Words
pub mod Stepping
pub mod Last
