pub mod ParityLemmas
pub mod ListLemmas
pub mod SumLemmas
pub mod ExactLemmas
pub mod NeverLemmas
pub mod NamingLemmas
pub mod TakingLemmas
