-- What the proofs of several functions use.
pub mod Cells
pub mod Shapes
pub mod Each
pub mod All
