pub mod Lists
pub mod Pigeons
pub mod InjectorLemmas
pub mod SetLemmas
pub mod ThreeLemmas
pub mod PassLemmas
pub mod FitLemmas
pub mod OneLemmas
