-- What the function inside the call asks for and says. No promise needs it.
pub mod Opened
