-- What the program `ranking` reads and prints.
pub mod Sheet
