pub mod ListLemmas
pub mod OwnLemmas
pub mod LoadLemmas
pub mod SegmentLemmas
pub mod ListingLemmas
pub mod NoteLemmas
