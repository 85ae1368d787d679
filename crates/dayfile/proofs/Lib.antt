pub mod Back
pub mod Begin
pub mod Behind
pub mod Doing
pub mod Follow
pub mod Route
pub mod Whole
