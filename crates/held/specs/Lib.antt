-- The definitions that the promises cite, in reading order.
pub mod Records
pub mod Valid
pub mod Release
