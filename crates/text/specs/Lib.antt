-- What a function that puts text promises, and a line of the key by its columns.
pub mod Put
pub mod Line
