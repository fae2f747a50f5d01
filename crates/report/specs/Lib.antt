pub mod Ends
pub mod Fields
pub mod LineReading
pub mod Named
pub mod Readings
pub mod Sizes
pub mod Views
