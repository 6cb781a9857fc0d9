-- What the functions inside retrace ask for and say. No promise needs it.
pub mod Written
