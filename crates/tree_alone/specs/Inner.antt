-- What the functions inside promise each other.
pub mod Entries
pub mod Stage
