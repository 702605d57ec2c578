pub mod Products
pub mod Rows
pub mod Table
pub mod UnitTexts
pub mod Units
pub mod Written
