pub mod Push
pub mod Match
pub mod Units
pub mod Steps
