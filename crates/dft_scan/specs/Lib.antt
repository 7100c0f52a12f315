pub mod Errors
pub mod Reports
pub mod Scans
pub mod Refusals
pub mod Laws
