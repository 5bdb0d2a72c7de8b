-- The definitions that the promises cite, in reading order.
pub mod Grant
pub mod Lookup
