pub mod Amounts
pub mod Arithmetic
pub mod Decimals
pub mod Digits
pub mod Nearness
pub mod Quantities
pub mod Scaling
pub mod Texts
