pub mod Faults
pub mod Sequences
pub mod Kinds
pub mod Places
