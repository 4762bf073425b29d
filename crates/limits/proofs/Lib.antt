pub mod Kept
pub mod Enough
pub mod Indexed
pub mod Sanely
pub mod Tables
