pub mod Lexemes
pub mod Steps
pub mod Cut
pub mod TokensAhead
pub mod Reading
