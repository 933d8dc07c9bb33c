pub mod Order
pub mod Star
pub mod Held
