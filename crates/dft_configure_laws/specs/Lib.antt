pub mod Pairs
pub mod MadeLoads
pub mod Taken
pub mod MadeScans
pub mod Moves
pub mod Examples
