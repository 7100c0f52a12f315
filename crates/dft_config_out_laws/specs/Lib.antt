pub mod Tables
pub mod Names
pub mod Lists
pub mod Comments
pub mod Texts
