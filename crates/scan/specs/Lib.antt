pub mod Units
pub mod Strings
