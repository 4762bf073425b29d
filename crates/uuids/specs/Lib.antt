pub mod Ids
pub mod Named
