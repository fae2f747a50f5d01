pub mod Wants
pub mod Stages
pub mod Doings
pub mod Received
pub mod Tries
pub mod Turns
