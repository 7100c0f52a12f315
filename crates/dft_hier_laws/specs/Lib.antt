pub mod Joined
pub mod JoinedLogic
pub mod Laws
