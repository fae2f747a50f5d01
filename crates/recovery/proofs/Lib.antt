pub mod KindLaws
pub mod PlacesRead
pub mod MoreRead
pub mod WholeRead
pub mod ShiftLaws
pub mod BootCounts
pub mod ObjectRead
pub mod MovedState
