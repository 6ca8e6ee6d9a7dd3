pub mod Records
pub mod Loaded
pub mod Steps
pub mod Saved
pub mod LawsHold
pub mod Pieces
pub mod SavedBytes
