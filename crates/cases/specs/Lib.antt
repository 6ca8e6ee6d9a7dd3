pub mod CaseRows
pub mod Turns
pub mod Tables
pub mod SearchCases
pub mod Searches
pub mod Worked
pub mod Refusals
