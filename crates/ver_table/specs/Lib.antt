pub mod Chains
pub mod Slots
pub mod Places
pub mod StandsFor
pub mod Tabled
