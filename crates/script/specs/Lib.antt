-- The definitions, in the order to read them.
pub mod Results
pub mod Keywords
pub mod Words
pub mod Parts
pub mod SetLines
pub mod ScheduleLines
pub mod Lines
pub mod Sections
pub mod Blocks
pub mod Reading
pub mod Fronts
pub mod Laws
-- How the code meets them.
pub mod Causes
pub mod CauseWords
pub mod Views
