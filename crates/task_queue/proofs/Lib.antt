pub mod Finishes
pub mod Lists
