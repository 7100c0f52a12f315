pub mod Concatenations
