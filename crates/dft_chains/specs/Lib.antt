pub mod Hardware
pub mod Shifts
pub mod ScanOff
