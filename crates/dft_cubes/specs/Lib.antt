pub mod Domains
pub mod Cubes
pub mod NameSetShown
pub mod Taking
pub mod Laws
