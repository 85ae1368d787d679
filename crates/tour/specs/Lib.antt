pub mod Savings
pub mod Tallies
