pub mod Filters
pub mod QuoteLaws
pub mod Quotes
pub mod Told
