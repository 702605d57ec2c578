pub mod Slots
pub mod Order
pub mod Paths
pub mod PathTexts
pub mod PathParts
pub mod Read
