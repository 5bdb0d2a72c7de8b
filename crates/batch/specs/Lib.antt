-- The definitions that the promises cite, in reading order.
pub mod Batch
pub mod Words
pub mod Repeated
pub mod Listed
pub mod Answered
