pub mod Limits
pub mod Refusals
pub mod Outcomes
pub mod Cells
pub mod Passes
pub mod Insertion
pub mod Walks
pub mod Theory
