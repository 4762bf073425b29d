pub mod Atoms
pub mod Marking
pub mod Picking
pub mod Meeting
