pub mod Facts
pub mod PlainLaws
pub mod EdtVectors
pub mod Experiments
pub mod Capturing
pub mod FlopOrder
pub mod Existence
