pub mod Items
pub mod ItemSteps
pub mod Events
pub mod Indexed
pub mod DueTimes
pub mod Filling
