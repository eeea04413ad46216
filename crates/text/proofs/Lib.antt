-- The laws of text put into a lent buffer, and why the buffers of the programs that print keys, reasons and shares suffice.
pub mod Puts
pub mod Putting
pub mod Decimals
pub mod DigitCounts
pub mod ColumnParts
pub mod Lengths
pub mod Room
pub mod ReasonRoom
pub mod ShareRoom
pub mod Enough
pub mod Refused
