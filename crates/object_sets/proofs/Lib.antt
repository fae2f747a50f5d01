pub mod Elements
pub mod Insertion
pub mod Spelling
pub mod ForCallers
