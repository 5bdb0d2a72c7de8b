-- The definitions that the promises cite, in reading order.
pub mod Put
pub mod Stages
