pub mod ChainRows
pub mod ChainRowsShown
pub mod Impulses
pub mod Inside
pub mod LoadRows
pub mod RowShown
