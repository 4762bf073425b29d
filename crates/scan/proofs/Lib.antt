-- What the proofs of several functions use.
pub mod Bytes
pub mod Items
pub mod Values
pub mod Ends
pub mod Same
pub mod Plain
pub mod Past
pub mod Characters
pub mod Enough
mod Examples
