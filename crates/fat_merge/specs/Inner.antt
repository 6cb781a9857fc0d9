-- What the functions inside the merge ask for and say. No promise needs it.
pub mod Sweep
