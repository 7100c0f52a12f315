pub mod Outcomes
mod TextExamples
mod BlankExamples
mod NameExamples
mod HeaderExamples
mod DeclarationExamples
mod ExpressionExamples
mod ConstantExamples
mod GateExamples
mod CellExamples
mod EndExamples
mod NetlistExamples
mod ModuleExamples
mod LimitExamples
pub mod ParserLemmas
pub mod WordKinds
pub mod KindLemmas
