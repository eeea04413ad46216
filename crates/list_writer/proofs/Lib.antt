-- Why what is put is the text of the file, and has room.
pub mod Printing
pub mod Fitting
pub mod Room
pub mod Enough
pub mod Texts
