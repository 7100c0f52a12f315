pub mod Chunks
pub mod Fields
pub mod Sweepings
