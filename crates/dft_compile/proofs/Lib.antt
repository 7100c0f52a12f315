pub mod RefusalLemmas
pub mod BytesLemmas
mod CountLemmas
pub mod ReportLemmas
pub mod LateLemmas
pub mod WorkLemmas
pub mod TellingLemmas
