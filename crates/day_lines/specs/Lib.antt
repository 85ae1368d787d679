pub mod Cutting
pub mod Fields
pub mod LineLaws
pub mod Lines
pub mod Reading
