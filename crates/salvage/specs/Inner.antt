-- What the functions inside say to each other. No promise needs it.
pub mod Walks
