pub mod Entries
pub mod Carve
