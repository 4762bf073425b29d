pub mod Columns
pub mod Items
pub mod Tables
pub mod Faulty
pub mod Naming
pub mod Holding
pub mod Beyond
pub mod Narrowing
