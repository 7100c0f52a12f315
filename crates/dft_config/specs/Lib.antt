pub mod Config
pub mod Cycles
pub mod Segments
pub mod Range
pub mod Shown
pub mod Ring
pub mod Loads
pub mod LoadExamples
