pub mod Entering
pub mod Interest
pub mod Leaving
pub mod Meeting
pub mod Numbers
pub mod Settling
pub mod Stepping
pub mod Trading
