pub mod Day
pub mod DayLaws
pub mod Doing
pub mod Files
pub mod WorkedFile
pub mod Writing
