pub mod Lexemes
pub mod Steps
pub mod Modules
pub mod Expressions
pub mod Items
pub mod NetlistText
