pub mod Judges
pub mod Rows
pub mod Makes
