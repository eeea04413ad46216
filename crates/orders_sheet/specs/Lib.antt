-- What the program `orders` reads and prints, and what the code promises.
pub mod Sheet
pub mod Promises
