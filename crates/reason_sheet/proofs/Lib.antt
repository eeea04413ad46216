-- Why what is put is the reason: what is written and what is left to write make the whole.
pub mod Chains
pub mod Listing
pub mod Lines
pub mod Replaying
pub mod Reasons
