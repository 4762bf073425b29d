pub mod Lookup
pub mod Tests
