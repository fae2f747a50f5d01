pub mod Standing
pub mod Running
pub mod Fetching
pub mod Copying
pub mod Beside
pub mod Granted
