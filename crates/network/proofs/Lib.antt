pub mod Spread
pub mod Scratch
pub mod Meaning
pub mod Tried
pub mod History
