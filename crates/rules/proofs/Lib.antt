-- What is proved about the definitions of specs/. Demands.antt has the theorems about the machines, Files/Inverse.antt those about event
-- files; Depletion.antt has what a Spent timeslice is, Removal.antt that freed numbers are free, Ranking.antt what a rank leaves.
-- LastColumn.antt has the plain machine's key as bytes, WithoutPlaces.antt that it never refuses with 1, and JudgingAnew.antt that what ran
-- before an event does not matter to its judging. WiderWalk.antt has the laws of the walk's answer, and Reasons.antt that the reason on the
-- key is true; Shares.antt that the shares are, and Shortening/Shorter.antt that a shorter question is one. K1 to K11 and rows of our own
-- are computed in crate marked.
pub mod Computing
pub mod Basics
pub mod Files
pub mod Links
pub mod Order
pub mod Soundness
pub mod Tables
pub mod Choosing
pub mod Events
pub mod Agreement
pub mod Numbers
pub mod Bounds
pub mod Demands
pub mod LastColumn
pub mod WithoutPlaces
pub mod Judging
pub mod Idlers
pub mod JudgingAnew
pub mod Depletion
pub mod Removal
pub mod Ranking
pub mod WiderWalk
pub mod Reasons
pub mod Payments
pub mod Shares
pub mod Shortening
