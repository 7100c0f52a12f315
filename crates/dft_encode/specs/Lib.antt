pub mod Compiled
pub mod Counts
pub mod Encoding
pub mod Finding
pub mod Laws
pub mod Named
