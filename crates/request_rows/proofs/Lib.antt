-- What the proofs of several functions use.
pub mod Faults
pub mod Values
pub mod Rows
pub mod Updates
pub mod Cells
pub mod Reading
