pub mod Sums
pub mod Loading
pub mod Unloading
