pub mod Text
pub mod Values
