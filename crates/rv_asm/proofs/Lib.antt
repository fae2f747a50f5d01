pub mod Searches
pub mod FormSearch
pub mod Cuts
pub mod Ranges
pub mod Whole
pub mod Passes
pub mod Spots
pub mod Faults
pub mod LoadFacts
mod Tokens
mod WrittenNumbers
mod WrittenOperands
mod WrittenForms
mod WrittenLines
