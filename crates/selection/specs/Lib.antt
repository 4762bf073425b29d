pub mod Most
pub mod Shown
pub mod Picks
