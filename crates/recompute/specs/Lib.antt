pub mod Kept
pub mod Evaluated
pub mod Steps
pub mod Order
