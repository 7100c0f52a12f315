pub mod OneOperandLemmas
pub mod LoneNameLemmas
pub mod SubLemmas
pub mod ConnectionLemmas
pub mod GateLemmas
pub mod KeptLemmas
