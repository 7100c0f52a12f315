pub mod Choices
pub mod Passes
pub mod WiderPorts
