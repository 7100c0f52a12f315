pub mod Refusals
pub mod Lines
pub mod Answers
pub mod Texts
pub mod Steps
pub mod Puts
