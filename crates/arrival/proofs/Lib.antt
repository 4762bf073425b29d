-- The mathematics of this crate's proofs.
pub mod Records
pub mod Answers
pub mod Changes
pub mod Doing
