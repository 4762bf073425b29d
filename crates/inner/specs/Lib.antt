pub mod Positions
pub mod Working
