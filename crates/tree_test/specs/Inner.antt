-- What the functions inside promise each other.
pub mod Halves
