pub mod EventLists
pub mod Reached
pub mod FailureLaws
pub mod StepLaws
pub mod ForCallers
