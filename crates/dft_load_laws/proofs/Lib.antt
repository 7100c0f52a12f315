pub mod Sums
pub mod Running
pub mod Bringing
