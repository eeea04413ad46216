-- The laws behind the plain engine; the proof of a function stands in the folder of its module, under its own name.
pub mod Walks
pub mod Whole
pub mod Judged
pub mod Rounds
pub mod Changes
pub mod Offering
pub mod Runs
