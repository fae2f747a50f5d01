pub mod Cuts
pub mod Digits
pub mod Capped
pub mod NameTests
pub mod ForCallers
pub mod LinesSeen
