pub mod Stuck
pub mod Rounds
pub mod Laws
