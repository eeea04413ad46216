-- What the functions of this crate promise.
pub mod Tallies
