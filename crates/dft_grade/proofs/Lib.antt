pub mod Soundness
pub mod Fits
pub mod Listed
pub mod AllOfThem
