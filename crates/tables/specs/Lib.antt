-- What the functions on the stored tables give, as definitions.
pub mod Timeslices
pub mod Sets
pub mod Turning
pub mod Verdicts
