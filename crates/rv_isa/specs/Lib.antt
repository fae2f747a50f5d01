pub mod Fields
pub mod Formats
pub mod Table
pub mod Ranges
pub mod Words
pub mod Names
pub mod Texts
