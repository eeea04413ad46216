-- Why the test over the parts of a machine is document 01's. The proof of a function stands in the folder of its module, under its own
-- name.
pub mod Library
pub mod Loops
pub mod Whole
