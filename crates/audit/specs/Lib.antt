pub mod Differences
pub mod Answers
