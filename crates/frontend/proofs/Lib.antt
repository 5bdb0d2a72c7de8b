-- The laws of the definitions.
pub mod Fields
pub mod Shape
pub mod Written
pub mod Standing
pub mod Reading
pub mod RoundTrip
pub mod Fewest
pub mod Searching
pub mod Stored
pub mod Naming
pub mod Calls
