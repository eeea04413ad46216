-- What document 02, [12], says of abort orders, and what the code promises.
pub mod Orders
pub mod Promises
pub mod Meaning
