-- The definitions, in the order to read them. First where the words stand, and what they are.
pub mod Words
pub mod Layouts
pub mod IndexWords
-- What stands on a device.
pub mod Decoding
pub mod Keeping
pub mod Places
-- What is written to it.
pub mod Formats
pub mod Commits
pub mod Counting
pub mod Migrations
pub mod Journals
-- Short names for the laws.
pub mod Devices
-- Worked examples.
pub mod Worked
pub mod WorkedPages
