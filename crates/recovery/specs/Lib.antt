-- The definitions, in the order to read them.
pub mod Images
pub mod Reading
pub mod Booting
pub mod Migrating
