pub mod Enters
pub mod Gives
pub mod Inserts
pub mod Keeps
pub mod Places
pub mod Searches
pub mod Strictness
pub mod Testing
