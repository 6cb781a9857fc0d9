-- What the functions inside the calls ask for and say. No promise needs it.
pub mod Chains
