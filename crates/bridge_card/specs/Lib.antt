-- What document 02, [9], says of the bridge card, and what the code promises.
pub mod Card
pub mod Promises
pub mod Meaning
