-- What the functions of this crate promise.
pub mod Arrived
pub mod Later
