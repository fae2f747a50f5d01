pub mod Courses
pub mod Turns
pub mod Lists
pub mod Rooms
pub mod Afters
