pub mod Cycle
pub mod Laws
