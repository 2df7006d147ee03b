pub mod WordLaws
pub mod Taking
