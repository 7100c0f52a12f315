pub mod BitLemmas
pub mod Holds
pub mod SumLemmas
pub mod Summed
pub mod Parity
pub mod Tops
pub mod Gates
pub mod RowLemmas
