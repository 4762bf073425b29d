pub mod Kinds
pub mod Writing
pub mod Reading
