pub mod WordFacts
pub mod NameFacts
pub mod TakenNames
pub mod TaskFacts
pub mod LimitLaws
