pub mod Writing
pub mod Shelving
pub mod Keeping
pub mod Deciding
