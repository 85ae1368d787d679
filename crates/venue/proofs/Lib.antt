pub mod Calling
pub mod Holding
pub mod Keeping
pub mod Lending
pub mod Running
pub mod Settling
pub mod Tallies
