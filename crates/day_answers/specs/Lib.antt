pub mod Written
pub mod WrittenLaws
