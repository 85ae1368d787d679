pub mod Meant
pub mod MeantLaws
pub mod Plain
pub mod PlainLaws
pub mod Protecting
pub mod Runs
