-- What the code's answers stand for in document 01, and the events that are left from an offset on.
pub mod Answers
pub mod Left
