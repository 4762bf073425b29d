-- The mathematics of this crate's proofs.
pub mod Opening
pub mod Asking
pub mod Hearing
pub mod Starting
pub mod Numbered
