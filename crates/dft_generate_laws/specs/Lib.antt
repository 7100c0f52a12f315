pub mod Designs
pub mod CubeLists
pub mod Laws
