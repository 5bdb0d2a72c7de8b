-- The laws that the functions here need.
pub mod Laws
