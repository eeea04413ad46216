-- What the functions of this crate promise.
pub mod Standing
pub mod Promises
