pub mod Words
pub mod Saying
pub mod Reading
pub mod Shown
pub mod WrittenRead
