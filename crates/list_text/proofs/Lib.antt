-- The laws of lists in words: the reader, and that reader and writer undo each other.
pub mod Examples
-- the reader
pub mod Enough
pub mod Counting
pub mod Filings
pub mod Sentences
-- each undoes the other
pub mod Joining
pub mod Digits
pub mod Spelling
pub mod Unspelling
pub mod Formed
pub mod Bounded
pub mod Inverse
