pub mod SteadyLemmas
pub mod VectorLemmas
