pub mod Integers
pub mod Shapes
