pub mod BitsShown
pub mod Elimination
pub mod Ends
pub mod Inside
pub mod Laws
pub mod Like
pub mod Rows
pub mod RowsShown
