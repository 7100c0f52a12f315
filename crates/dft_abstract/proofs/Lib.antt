pub mod Strobe
pub mod Phases
pub mod Turns
pub mod Views
pub mod Least
pub mod Halves
pub mod OneDomain
pub mod Lifts
