pub mod TextLemmas
mod WorkedReport
