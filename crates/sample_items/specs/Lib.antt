pub mod Levels
pub mod LevelLaws
