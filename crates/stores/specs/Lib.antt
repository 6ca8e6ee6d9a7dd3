pub mod Keys
pub mod Stores
pub mod Behaviours
pub mod Bare
pub mod Shelves
pub mod ShelfLaws
pub mod Shown
