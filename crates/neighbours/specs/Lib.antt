-- The turn order as neighbours: what stands in the two sides, which list is read from them, and when they form one.
pub mod Sides
pub mod Reading
pub mod Joining
pub mod Forming
