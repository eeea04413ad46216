-- The laws behind the functions on the tables; the proof of a function stands in the folder of its module, under its own name.
pub mod Lookups
pub mod Places
pub mod Walks
pub mod Counts
pub mod Along
pub mod Mapping
pub mod Shifts
