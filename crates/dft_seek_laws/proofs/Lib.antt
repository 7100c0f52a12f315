pub mod Pulses
pub mod Settling
pub mod Following
pub mod Fitting
pub mod Detecting
pub mod Existing
pub mod Applying
