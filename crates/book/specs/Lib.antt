pub mod BookState
pub mod Identified
pub mod Means
pub mod Numbered
