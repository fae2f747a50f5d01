pub mod LineFacts
pub mod NoDifference
pub mod Differing
