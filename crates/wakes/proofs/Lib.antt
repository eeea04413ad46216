-- Document 02, [14]: what a wake does at once, two wakes either way round, any wakes in any order, and the same of the code; the links that
-- two wakes follow in all, and a case where the sums differ.
pub mod TwoReleases
pub mod AtOnce
pub mod EitherWay
pub mod AnyOrder
pub mod Methods
pub mod Sums
pub mod SumsDiffer
