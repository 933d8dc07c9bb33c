pub mod Algebra
pub mod Entries
