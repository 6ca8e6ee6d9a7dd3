pub mod Loose
pub mod LooseLaws
pub mod Premises
pub mod LatestKey
pub mod LatestLaws
