pub mod Touching
pub mod Slots
pub mod Queues
pub mod Tables
pub mod Joined
