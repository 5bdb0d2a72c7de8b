-- The definitions that the promises cite, in reading order.
pub mod Grammar
pub mod Divide
pub mod Packet
pub mod Stages
pub mod Service
