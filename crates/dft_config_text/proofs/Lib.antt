pub mod BoundLemmas
pub mod CheckLemmas
pub mod DistinctLemmas
pub mod RangeLemmas
pub mod Steps
