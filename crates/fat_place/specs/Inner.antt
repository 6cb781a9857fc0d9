-- What the functions inside ask for and say. No promise needs it.
pub mod Carving
