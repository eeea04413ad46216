-- Why the two engines agree: Demand.antt has the theorem about the machines, Keys.antt that about the keys' bytes.
pub mod Keys
pub mod Demand
