-- Why what is put is the key of the file.
pub mod Printing
pub mod Keys
