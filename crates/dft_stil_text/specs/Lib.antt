pub mod SignalGroups
pub mod WaveformTables
pub mod Statements
pub mod PatternText
pub mod Laws
