pub mod GoodOrder
pub mod Replying
