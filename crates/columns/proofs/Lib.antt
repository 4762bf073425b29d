-- What the proofs of several functions use.
pub mod Kept
pub mod Gathering
pub mod Sizes
pub mod Cells
pub mod Listing
