pub mod Taking
pub mod Writing
pub mod Questions
