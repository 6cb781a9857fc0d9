-- What the functions inside promise each other.
pub mod Marks
pub mod Gather
pub mod Climb
