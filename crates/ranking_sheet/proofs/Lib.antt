-- Why what is put are the answers, and that there is room for them.
pub mod Inputs
pub mod Filling
pub mod Answering
pub mod Room
