-- Why what is put are the shares of the file.
pub mod Additions
pub mod Tallying
pub mod Sheet
