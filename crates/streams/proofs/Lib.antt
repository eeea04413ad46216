-- What the proofs of several functions, or those of the programs, rest on.
pub mod Printing
