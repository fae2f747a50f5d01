pub mod Promise
pub mod Following
