-- The law of a turn of a file, and of some turns; what programs that replay a file know alike.
pub mod Turns
pub mod Dispatching
pub mod Inputs
pub mod Within
