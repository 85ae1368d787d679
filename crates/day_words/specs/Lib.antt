pub mod Faults
pub mod Reads
pub mod Spelling
pub mod SpellingLaws
