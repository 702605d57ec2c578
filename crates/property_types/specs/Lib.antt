pub mod Values
pub mod Sorts
pub mod Types
pub mod Fits
pub mod Reserved
pub mod Plans
pub mod SoundPlans
pub mod Examples
