pub mod PrintedLemmas
pub mod PartLemmas
pub mod RestLemmas
pub mod FrontLemmas
