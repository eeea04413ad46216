-- Chains of links: what a walk finds, and what stays true when one link changes.
pub mod Counting
pub mod Chains
pub mod Frames
