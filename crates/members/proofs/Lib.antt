-- What the proofs of several functions use.
pub mod Choices
pub mod Kept
pub mod Slotted
