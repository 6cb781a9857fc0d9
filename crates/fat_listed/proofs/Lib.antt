pub mod Judges
pub mod Same
pub mod Seen
pub mod Shares
pub mod Tests
