pub mod Lengths
pub mod Pieces
pub mod Finding
pub mod Jobs
