pub mod Lines
mod WorkedJob
