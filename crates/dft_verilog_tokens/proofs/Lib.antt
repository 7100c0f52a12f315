pub mod BlankLemmas
pub mod FrontLemmas
pub mod NameLemmas
pub mod ClassLemmas
pub mod WordKindLemmas
pub mod DigitLemmas
pub mod SmallWordLemmas
