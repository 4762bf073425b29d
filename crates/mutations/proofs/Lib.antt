-- What the proofs of several functions use.
pub mod Calculating
pub mod Uniting
pub mod Stepping
pub mod Naming
pub mod Faulty
pub mod Rowing
pub mod Rowwise
