pub mod Told
pub mod Written
pub mod Refusals
pub mod Gathers
pub mod Laws
pub mod Expected
