pub mod Faults
pub mod Layout
pub mod State
pub mod Calls
pub mod Meaning
pub mod History
pub mod Guarantee
pub mod Texts
