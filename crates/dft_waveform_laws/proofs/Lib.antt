pub mod TableLemmas
pub mod PairLemmas
