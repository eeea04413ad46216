-- Document 01 as definitions that compute, a file for each of its sections, in its order and words, with what the requests of document 02
-- that have landed change and add, each under its sentence. This is what a reader must believe.
pub mod Tests
-- What belongs to the machine
pub mod State
pub mod Holds
pub mod Order
-- The walk
pub mod Walk
-- Release and choice
pub mod Threads
pub mod Release
pub mod Choice
-- The plain machine
pub mod Plain
-- Events
pub mod Timeslices
pub mod Events
pub mod Lists
-- A sound machine
pub mod Sound
-- Refusals, operation by operation
pub mod Refusals
pub mod RefusalNumbers
-- Event file and key
pub mod EventFile
pub mod Steps
pub mod Key
-- The reason on the key (document 02, [5])
pub mod Reason
-- Shares of the watch (document 02, [13])
pub mod Shares
-- A shorter question with the same refusal (document 02, [11])
pub mod Shorten
