-- The definitions that the promises cite, in reading order.
pub mod Judge
pub mod Stages
