pub mod Keys
pub mod Refusals
pub mod Drafts
pub mod Reading
pub use Rattle.toml.specs.Data
pub use Rattle.dft_toml.specs.Text
