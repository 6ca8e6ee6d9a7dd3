pub mod Writings
pub mod Verdicts
pub mod Giving
pub mod Built
