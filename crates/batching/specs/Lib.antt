-- The definitions that the promises cite.
pub mod Course
