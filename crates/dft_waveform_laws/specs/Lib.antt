pub mod Waveforms
pub mod PairsOfTimes
pub mod Laws
