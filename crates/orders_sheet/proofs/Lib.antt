-- Why what is put is what the definitions say.
pub mod Inputs
pub mod Obeying
pub mod Commanding
pub mod Fitting
pub mod Room
