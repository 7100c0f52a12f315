pub mod Rows
pub mod Sums
pub mod Choices
pub mod Laws
