pub mod NextTokens
pub mod Steps
pub mod Reading
pub mod Shrinking
pub mod Standing
pub mod Tails
pub mod Whole
