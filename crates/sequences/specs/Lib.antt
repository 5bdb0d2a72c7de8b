-- The definitions, in reading order.
pub mod Conservation
pub mod Sequence
pub mod Ledger
pub mod Order
pub mod Unrewritten
pub mod Turns
