pub mod Config
pub mod ConfigInside
pub mod Settings
pub mod SettingsWork
