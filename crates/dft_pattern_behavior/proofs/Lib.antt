pub mod Clocks
pub mod Lists
pub mod Loaded
pub mod Edges
pub mod Ends
pub mod Unloading
pub mod Capturing
pub mod Patterns
pub mod Listed
pub mod Places
pub mod Playing
pub mod Clocking
pub mod Splitting
mod Inputs
mod Standing
