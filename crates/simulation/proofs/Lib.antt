pub mod Fronts
pub mod Halting
pub mod Going
pub mod ReadBack
pub mod Tails
pub mod Counted
