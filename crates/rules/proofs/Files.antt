-- Event files: what acceptance, reading, stepping and writing say, and that reading and writing undo each other. Inverse.antt has the
-- theorems.
pub mod Records
pub mod Operands
pub mod Refusing
pub mod Accepting
pub mod Reading
pub mod Stepping
pub mod Writing
pub mod WrittenThenRead
pub mod ReadThenWritten
pub mod Stepwise
pub mod Appending
pub mod Inverse
