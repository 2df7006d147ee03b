pub mod Lengths
pub mod Fields
pub mod Faults
pub mod Coding
