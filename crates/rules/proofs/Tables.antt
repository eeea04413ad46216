-- What the changes of the tables keep.
pub mod Partners
pub mod Writes
pub mod Updates
pub mod Removals
