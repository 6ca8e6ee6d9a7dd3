pub mod Refusals
pub mod Building
pub mod Closing
pub mod Whole
