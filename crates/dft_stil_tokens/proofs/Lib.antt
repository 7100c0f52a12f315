pub mod GapLemmas
pub mod NameBytes
pub mod FrontLemmas
pub mod NumberLemmas
pub mod CharacterNames
