pub mod Joining
pub mod Committed
