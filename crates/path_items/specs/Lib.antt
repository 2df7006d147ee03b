pub mod Paths
pub mod CommandLaws
pub mod ValueLaws
