-- The definition that the promises cite.
pub mod Place
