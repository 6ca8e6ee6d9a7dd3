pub mod Sheets
pub mod Causes
pub mod Reading
pub mod Laws
pub mod Loading
pub mod Saving
