-- The laws of a line: scans, words and numbers, operands in turn.
pub mod Scans
pub mod Numerals
pub mod Taking
