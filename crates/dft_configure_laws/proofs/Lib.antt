pub mod FewLemmas
pub mod MadeLemmas
pub mod TakenLemmas
pub mod ScanLemmas
pub mod MoveLemmas
pub mod ExampleLemmas
