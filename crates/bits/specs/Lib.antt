pub mod Codes
pub mod Stores
pub mod Faults
