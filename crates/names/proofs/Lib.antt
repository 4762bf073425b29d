-- What the proofs of several functions use.
pub mod Versions
pub mod Cells
