-- The laws behind the functions along the turn order; the proof of a function stands in the folder of its module, under its own name.
pub mod Searches
pub mod Forward
pub mod ReleaseLoop
pub mod Alone
pub mod Detaching
pub mod Recodings
