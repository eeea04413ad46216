-- Why what is written is the shorter question.
pub mod Standing
pub mod Going
pub mod Asking
pub mod Tries
pub mod Halves
pub mod Moves
pub mod Trying
pub mod Shortening
pub mod Sheet
pub mod Room
