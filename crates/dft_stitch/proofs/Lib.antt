pub mod RangeLemmas
pub mod BlockLemmas
pub mod ChainLimits
pub mod TableLemmas
pub mod PlanLemmas
pub mod EvenLemmas
pub mod LengthLemmas
pub mod CountLemmas
pub mod LockupLemmas
pub mod OnceLemmas
pub mod OrderLemmas
mod WorkedPlan
pub mod CellPlaces
pub mod PlannedLemmas
