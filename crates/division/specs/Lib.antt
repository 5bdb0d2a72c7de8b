pub mod Run
pub mod Shape
pub mod Answer
pub mod Fast
