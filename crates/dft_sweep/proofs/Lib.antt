pub mod Placings
pub mod Sweeps
