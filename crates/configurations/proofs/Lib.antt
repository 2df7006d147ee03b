pub mod SettingLaws
pub mod Reading
pub mod Writing
