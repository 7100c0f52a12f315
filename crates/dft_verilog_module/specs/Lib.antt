pub mod Declarations
pub mod PortDeclarations
pub mod JoinedPins
pub mod LoneNames
pub mod SaidModules
pub mod ConcatenationsShown
