pub mod Pairs
pub mod ObjectSets
