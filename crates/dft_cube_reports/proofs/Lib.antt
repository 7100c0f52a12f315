pub mod VariableLemmas
pub mod ReportLemmas
pub mod LineLemmas
pub mod PlacedLemmas
