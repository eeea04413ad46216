-- What the program `card` reads and prints, and what the functions behind it promise.
pub mod Sheet
pub mod Promises
