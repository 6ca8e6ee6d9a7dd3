pub mod Membership
pub mod Masks
pub mod Lawful
pub mod Lists
