pub mod Chains
pub mod Limits
pub mod Shown
pub mod Plans
pub mod Tables
pub mod Laws
pub mod Planning
pub mod PlannedShown
