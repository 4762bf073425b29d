pub mod Performed
pub mod Ran
pub mod Clauses
pub mod Running
