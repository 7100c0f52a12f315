pub mod Shiftings
pub mod ScanOffLemmas
pub mod Staying
