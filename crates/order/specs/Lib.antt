pub mod Answer
pub mod First
pub mod Gate
pub mod Given
pub mod Beside
pub mod Giving
pub mod Tells
