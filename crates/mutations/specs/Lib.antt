pub mod Steps
pub mod Mutating
pub mod Rows
