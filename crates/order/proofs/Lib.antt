pub mod One
pub mod Gate
pub mod Beside
pub mod Tests
