pub mod Beyond
pub mod Telling
