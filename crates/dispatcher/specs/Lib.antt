-- What the stored machine shows, and what the choice and every event promise.
pub mod Shown
pub mod Choosing
pub mod Promise
pub mod Refusing
