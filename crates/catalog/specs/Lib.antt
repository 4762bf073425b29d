pub mod Entries
pub mod Accepted
pub mod Writing
pub mod Judging
pub mod Tidied
pub mod Slots
pub mod Renewed
