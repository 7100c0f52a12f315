pub mod PlacingLemmas
pub mod FillingLemmas
pub mod FindingLemmas
pub mod EncodingLemmas
pub mod WidthLemmas
pub mod OneLemmas
