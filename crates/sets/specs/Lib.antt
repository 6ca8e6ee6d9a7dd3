pub mod Sets
pub mod Placings
pub mod Laws
