pub mod Classes
pub mod Cut
pub mod Reading
pub mod TokensAhead
pub mod Constants
pub mod Digits
pub mod SmallWords
