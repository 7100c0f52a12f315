pub mod Good
pub mod Roots
pub mod Found
pub mod Most
pub mod Compacting
pub mod Scanned
pub mod Seen
