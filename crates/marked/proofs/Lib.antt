-- What the definitions print, computed: K1 to K11 and rows of our own, reasons, shares, shorter questions, lookups in ranking tables,
-- operations on the bridge card, and abort orders.
pub mod MarkedSequences
pub mod MarkedReasons
pub mod MarkedShares
pub mod MarkedShorten
pub mod MarkedRankings
pub mod MarkedCards
pub mod MarkedOrders
