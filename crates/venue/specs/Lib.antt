pub mod Answers
pub mod Calls
pub mod Closing
pub mod Holding
pub mod Runs
pub mod Together
