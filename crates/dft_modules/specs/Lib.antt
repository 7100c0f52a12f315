pub mod Modules
pub mod ModuleShown
pub mod SubInstances
pub mod ModuleTexts
pub mod Sound
pub mod Laws
