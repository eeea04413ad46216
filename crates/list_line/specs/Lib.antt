-- What a line of a list in words says.
pub mod Reading
-- the faults as the code names them
pub mod Faults
-- how the code reads
pub mod Scanning
