-- The definitions, in the order to read them.
pub mod Schedules
pub mod CoreSteps
pub mod Failures
pub mod Limits
-- What the laws speak of.
pub mod Parts
-- Worked schedules.
pub mod Worked
