pub mod NameLemmas
pub mod GiveLemmas
pub mod TextLemmas
pub mod SoundLemmas
mod CellNames
