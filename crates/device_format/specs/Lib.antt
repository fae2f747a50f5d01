-- The definitions, in the order to read them.
pub mod Puts
pub mod Fresh
pub mod Shown
pub mod Forms
pub mod Moves
