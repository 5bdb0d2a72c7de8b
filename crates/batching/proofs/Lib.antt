-- What other crates take of the functions here.
pub mod Free
pub mod Course
