pub mod PairLemmas
pub mod ChoiceLemmas
pub mod RootLemmas
pub mod MostLemmas
pub mod RangeLemmas
pub mod GoodLemmas
pub mod ScannedLemmas
pub mod SeenLemmas
