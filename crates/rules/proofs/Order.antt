-- The order of timeslices.
pub mod Orders
pub mod Owners
