pub mod SettingsText
pub mod SettingsValues
