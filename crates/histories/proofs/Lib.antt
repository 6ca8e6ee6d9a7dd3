pub mod Finding
pub mod Replying
