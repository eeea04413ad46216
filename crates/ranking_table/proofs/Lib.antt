-- Why so few intervals need to be tried.
pub mod Counting
pub mod Searching
pub mod Ends
pub mod BadRows
pub mod Trying
pub mod Chains
pub mod Judging
pub mod Rankings
