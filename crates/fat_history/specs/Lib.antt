pub mod History
pub mod Away
pub mod OneChain
pub mod KeptBy
pub mod Formats
pub mod InUse
