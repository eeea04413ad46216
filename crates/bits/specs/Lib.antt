-- The bits of a number.
pub mod Bits
