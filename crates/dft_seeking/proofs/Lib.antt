mod KeptLemmas
mod GatherLemmas
mod SearchLemmas
mod EndLemmas
pub mod OneLemmas
pub mod ApartLemmas
pub mod CellsGiven
pub mod CubesRead
pub mod PinsHigh
pub mod ExpectedLemmas
mod ToldShows
