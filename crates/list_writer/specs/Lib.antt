-- Events in words, as they are written.
pub mod Writing
