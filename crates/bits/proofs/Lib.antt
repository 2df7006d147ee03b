pub mod Codes
pub mod Steps
