pub mod Outcomes
mod ModuleExamples
