pub mod Machine
pub mod Steps
pub mod Plans
pub mod Looks
pub mod Views
pub mod MachineShown
pub mod MachineLaws
