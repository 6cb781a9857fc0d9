-- What the functions inside the calls say. No promise needs it.
pub mod Gated
