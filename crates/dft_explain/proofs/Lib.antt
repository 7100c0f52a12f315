mod TextLemmas
mod Silence
mod Ends
mod Bounds
mod RunBounds
mod Decimals
pub mod FaultLemmas
mod FaultBounds
