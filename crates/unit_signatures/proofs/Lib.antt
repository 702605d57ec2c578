pub mod Exponents
pub mod Factors
