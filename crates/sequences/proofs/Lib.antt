-- The laws of the definitions.
pub mod Conservation
pub mod Ledger
pub mod Invariant
pub mod Demand3
pub mod Order
pub mod Ids
pub mod Turns
