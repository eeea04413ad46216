-- Release, choice and judging, and what a change of links or of a timeslice leaves to release.
pub mod Releases
pub mod Tops
pub mod Changes
pub mod Slices
pub mod Parking
pub mod Retrying
pub mod Choices
pub mod Keeping
