-- What functions inside the crates answer. No promise needs it.
pub mod Reads
