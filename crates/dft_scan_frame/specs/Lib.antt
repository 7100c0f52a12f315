pub mod Moves
pub mod AddedPorts
pub mod Pins
pub mod Growing
pub mod Refusals
pub mod Keeping
pub mod Statements
pub mod ConfigPorts
