pub mod Working
pub mod Places
pub mod Columns
pub mod NewRows
pub mod Ordering
