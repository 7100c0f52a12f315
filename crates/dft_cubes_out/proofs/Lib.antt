mod WordLemmas
pub mod NameLemmas
mod TakeLemmas
pub mod ReadLemmas
