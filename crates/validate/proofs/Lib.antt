pub mod Raises
pub mod Pins
pub mod Frees
pub mod OutsideReads
pub mod Fulls
pub mod Decided
pub mod TablesLaws
