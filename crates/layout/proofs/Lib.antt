pub mod Masks
pub mod Spots
