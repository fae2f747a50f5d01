pub mod Packed
pub mod Reading
pub mod Unpacked
pub mod HeaderView
pub mod Answers
