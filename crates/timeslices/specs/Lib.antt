-- What the functions along the turn order give, as definitions.
pub mod Searching
pub mod Releasing
pub mod Codes
