pub mod Values
pub mod Circuit
pub mod Sweepings
pub mod CircuitShown
pub mod Tables
pub mod Packed
pub mod Compiling
