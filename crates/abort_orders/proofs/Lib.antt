-- What the definitions of abort orders mean.
pub mod Inserting
pub mod Looking
pub mod Sorting
pub mod Counting
pub mod OneOrder
pub mod Superseding
pub mod Aborting
pub mod OneByOne
pub mod Answering
pub mod Taking
pub mod Working
pub mod WritingOut
pub mod AbortOrders
