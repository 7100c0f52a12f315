pub mod Given
pub mod Rounds
pub mod Doing
pub mod Listed
pub mod Statements
