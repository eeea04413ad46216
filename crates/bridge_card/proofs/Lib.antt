-- What the card's definitions mean.
pub mod Refusing
pub mod Lowest
pub mod Answering
pub mod Taking
pub mod Polling
pub mod Pending
pub mod Exactly
pub mod Waking
pub mod Coming
pub mod Raising
pub mod Control
pub mod Draining
pub mod Emptying
pub mod Following
pub mod Interrupts
