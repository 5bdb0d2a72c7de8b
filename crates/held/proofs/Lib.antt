-- The laws of the definitions.
pub mod Cover
pub mod Leaving
pub mod Tickets
pub mod Spoiling
pub mod Counts
pub mod Slots
pub mod Walk
pub mod Offsets
