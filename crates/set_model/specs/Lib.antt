pub mod Sets
pub mod Limits
pub mod Names
pub mod Numbers
pub mod Formatted
pub mod Views
