pub mod ListLemmas
pub mod ShapeLemmas
pub mod JoinedLemmas
pub mod RefusalLemmas
pub mod LineLemmas
mod WorkedScans
