pub mod ChainLemmas
pub mod ImpulseLemmas
pub mod LoadLemmas
pub mod RowLemmas
