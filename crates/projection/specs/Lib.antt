pub mod Shown
pub mod Most
