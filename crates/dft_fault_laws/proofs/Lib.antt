pub mod Meaning
pub mod Bounds
pub mod Passes
