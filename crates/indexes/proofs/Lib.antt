-- What the proofs of several functions use.
pub mod Shorts
pub mod Judged
pub mod Numbers
pub mod Cells
