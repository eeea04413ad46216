-- Why what is put is the plain machine's key of the file.
pub mod Printing
pub mod Keys
