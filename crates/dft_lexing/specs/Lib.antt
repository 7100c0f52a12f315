pub mod Blanks
pub mod Steps
pub mod Reading
