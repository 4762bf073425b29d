pub mod Walks
pub mod Keeping
pub mod Packs
pub mod Links
