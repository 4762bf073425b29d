-- What the proofs of several functions use.
pub mod Cells
pub mod Types
pub mod Texts
pub mod Typed
