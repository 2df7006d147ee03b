pub mod Settings
pub mod Configurations
