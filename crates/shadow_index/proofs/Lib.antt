pub mod Filling
pub mod CodeLooks
pub mod Told
pub mod ByKind
pub mod Faults
pub mod Taken
