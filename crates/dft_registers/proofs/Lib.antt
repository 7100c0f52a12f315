pub mod ListLemmas
pub mod LayoutLemmas
pub mod MoveLemmas
pub mod CellLemmas
