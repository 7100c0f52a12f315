pub mod Letters
pub mod Lengths
pub mod Written
pub mod Writable
pub mod Laws
pub mod WrittenLength
pub mod LengthLaws
