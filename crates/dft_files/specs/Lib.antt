pub mod Outside
pub mod Put
pub mod Basin
pub mod BasinShown
pub mod Entries
pub mod Store
pub mod StoreShown
