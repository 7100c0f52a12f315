pub mod Written
pub mod Refusals
