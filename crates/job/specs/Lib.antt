pub mod Promised
pub mod Texts
pub mod Planned
