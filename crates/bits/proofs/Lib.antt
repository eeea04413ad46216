-- Laws of bits.
pub mod BitLaws
pub mod Operations
