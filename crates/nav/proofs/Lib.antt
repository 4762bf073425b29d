-- What the proofs of several functions use.
pub mod Rest
pub mod FirstByte
pub mod Known
pub mod Walk
pub mod Numbers
