pub mod NetlistRefusals
pub mod Refused
pub mod JoinedModules
pub mod JoinedDesigns
pub mod ReadLemmas
