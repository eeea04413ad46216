-- Lists of events in words: what is read, and the form in which they are written.
pub mod Reading
pub mod Form
pub mod Answers
-- how the code counts
pub mod Counting
