pub mod Segments
pub mod Walks
pub mod Cuts
pub mod Moves
pub mod Takes
pub mod Kept
pub mod Told
