pub mod Rules
pub mod Refusals
pub mod Findings
pub mod ConfigPorts
pub mod Laws
