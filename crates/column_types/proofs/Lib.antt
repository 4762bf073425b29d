-- What the proofs of several functions use.
pub mod Signs
pub mod Keys
pub mod Tables
pub mod Shapes
