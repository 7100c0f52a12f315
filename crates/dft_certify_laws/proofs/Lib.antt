pub mod Running
pub mod Stated
pub mod Writing
pub mod Compiling
