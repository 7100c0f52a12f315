pub mod InRuns
pub mod Written
pub mod Compiled
pub mod Read
