-- The definitions that the promises cite, in reading order.
pub mod Slot
pub mod Decode
pub mod Encode
