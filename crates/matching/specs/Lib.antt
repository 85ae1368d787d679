pub mod Lanes
pub mod Reach
pub mod Turns
pub mod Walks
