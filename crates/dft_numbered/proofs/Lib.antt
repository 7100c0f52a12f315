pub mod NumberLemmas
pub mod NamedLemmas
