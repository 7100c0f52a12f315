pub mod Existence
pub mod Orders
pub mod Passing
pub mod WiderPortsLemmas
