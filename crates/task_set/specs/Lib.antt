pub mod FirstBroken
pub mod Ranges
pub mod Refusals
