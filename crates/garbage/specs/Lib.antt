pub mod Loose
pub mod Weak
pub mod Counts
