-- Case analysis on tests, and laws of lists of numbers.
pub mod Views
pub mod Members
pub mod Filters
pub mod Accepting
