pub mod Allotment
pub mod Lists
pub mod RuleLaws
pub mod Rules
pub mod Sorted
pub mod WorkedPrices
