pub mod Acts
pub mod Patterns
pub mod Shown
pub mod Steadiness
pub mod Drawings
pub mod Times
