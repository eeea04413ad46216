-- What can be said of reading and writing: how many bytes.
pub mod Counts
pub mod Program
