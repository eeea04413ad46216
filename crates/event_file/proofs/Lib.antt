-- What the proofs of the functions share, and the theorem about the code.
pub mod Reading
pub mod Steps
pub mod Demand
