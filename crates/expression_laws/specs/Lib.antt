pub mod ReadBack
pub mod Brackets
pub mod Replaced
pub mod PathsRead
