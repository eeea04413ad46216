-- A shorter question with the same refusal, document 02, [11]: Shorter.antt has the theorems.
pub mod Refusing
pub mod Passing
pub mod Repeating
pub mod Shorter
