pub mod Runs
pub mod Chains
pub mod Shapes
pub mod Cutting
pub mod Agreement
pub mod Numbers
