pub mod Certifying
pub mod Shown
pub mod Laws
