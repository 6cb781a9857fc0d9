-- What the functions inside promise each other.
pub mod Order
pub mod Sort
