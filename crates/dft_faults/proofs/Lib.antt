pub mod Others
pub mod Finished
pub mod Listed
pub mod Carried
pub mod Driving
pub mod ListingLemmas
