-- What the proofs of several functions use, and that the object written is the model's.
pub mod Columns
pub mod Rows
