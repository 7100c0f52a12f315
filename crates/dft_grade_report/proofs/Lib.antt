pub mod Lengths
mod WorkedReport
