pub mod Fronts
pub mod Making
pub mod Meanings
pub mod Prices
pub mod Protects
pub mod Tellings
