pub mod Asking
pub mod ListLaws
pub mod Counting
pub mod Filling
