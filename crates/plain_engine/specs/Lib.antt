-- What the plain engine's machine shows, how its shape is asked, and what it promises of an event.
pub mod Shown
pub mod Shape
pub mod Refusing
pub mod Changed
pub mod Promise
