pub mod Taking
pub mod Sharing
pub mod Adding
pub mod Passes
pub mod Slacks
pub mod LiteralSteps
pub mod EntrySteps
pub mod Letters
