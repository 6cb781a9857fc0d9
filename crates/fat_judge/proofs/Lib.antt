pub mod Judges
pub mod Rooms
pub mod Cursors
pub mod Reached
