pub mod Customers
pub mod Events
pub mod Standings
pub mod Terms
