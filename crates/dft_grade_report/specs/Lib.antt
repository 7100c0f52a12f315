pub mod Counted
pub mod Written
pub mod Lengths
