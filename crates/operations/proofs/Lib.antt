pub mod Choosing
pub mod Unmoved
pub mod Doing
pub mod Slots
pub mod Nulls
pub mod Results
pub mod Next
pub mod Going
