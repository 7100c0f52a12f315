pub mod Written
pub mod Named
pub mod Laws
