pub mod Wides
pub mod Evaluations
pub mod EvaluatorShown
pub mod Laws
