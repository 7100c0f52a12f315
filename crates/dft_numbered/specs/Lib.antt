pub mod Numbers
pub mod NumberedShown
