-- The laws behind the stored machine's events and doors, and the theorems about the code. The proof of a method stands in Machine/, under
-- its own name.
pub mod Stored
pub mod ChoiceLoop
pub mod Settles
pub mod Answering
pub mod Refusing
pub mod Offering
pub mod ThreadChanges
pub mod Current
pub mod TimesliceChanges
pub mod OneForm
pub mod Runs
pub mod Demands
pub mod TurnOrders
