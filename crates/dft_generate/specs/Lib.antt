pub mod Words
pub mod Netlists
pub mod Cubes
pub mod Configurations
pub mod Jobs
