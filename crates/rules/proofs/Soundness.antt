-- Soundness as records of statements, and back to the computed test.
pub mod Shapes
pub mod Standings
pub mod Places
