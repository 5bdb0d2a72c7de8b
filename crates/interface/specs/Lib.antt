-- The definitions that the promises cite.
pub mod Interface
pub mod PostThenTake
