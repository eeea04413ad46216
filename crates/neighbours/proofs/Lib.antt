-- The laws behind the neighbours; the proof of a function stands in the folder of its module, under its own name.
pub mod Stepping
pub mod Backward
pub mod Paths
pub mod Changing
pub mod TurnOrder
pub mod Damaged
