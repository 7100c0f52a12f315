pub mod WordLemmas
pub mod ReadingLemmas
pub mod HeardLemmas
pub mod NumberLemmas
pub mod Lines
pub mod Saying
pub mod Bringing
pub mod Whole
mod CanonicalNumbers
mod CanonicalWords
mod CanonicalReading
mod ReadableReading
