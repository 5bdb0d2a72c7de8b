-- The definitions that the promises cite, in reading order.
pub mod Take
pub mod Finish
pub mod Words
pub mod Replied
pub mod Keeps
pub mod Unchanged
pub mod Stages
