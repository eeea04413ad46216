-- What each event hands to the choice.
pub mod Hands
pub mod Joining
pub mod Rewrites
pub mod Lefts
pub mod Cutting
pub mod CreateEvent
pub mod GiveEvent
pub mod CallEvent
pub mod ReplyEvent
pub mod BlockEvent
pub mod WakeEvent
pub mod ChargeEvent
pub mod AbortEvent
pub mod RefillEvent
pub mod RemoveEvent
pub mod RankEvent
