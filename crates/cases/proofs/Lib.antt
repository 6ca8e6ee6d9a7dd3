pub mod TurnsComputed
pub mod Same
pub mod Playing
pub mod CallsComputed
