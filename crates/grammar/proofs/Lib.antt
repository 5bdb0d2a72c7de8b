-- The laws of the definitions.
pub mod Within
pub mod Grammar
pub mod Scan
pub mod Loop
pub mod Reading
pub mod Service
