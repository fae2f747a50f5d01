pub mod Views
pub mod Reading
pub mod Plans
pub mod Answers
