pub mod Forms
pub mod IntegerLaws
pub mod Escapes
