pub mod Stores
pub mod Runs
pub mod Places
pub mod Counts
