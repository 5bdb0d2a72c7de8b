-- The definitions that the promises cite, in reading order.
pub mod Report
pub mod Verdict
pub mod Effect
pub mod Words
