pub mod Example
pub mod Texts
