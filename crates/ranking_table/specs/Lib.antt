-- What document 02, [10], says of ranking tables.
pub mod Ranking
pub mod Good
