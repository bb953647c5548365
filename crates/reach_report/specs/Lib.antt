pub mod FirstGrant
pub mod Maps
pub mod Reaches
pub mod Records
pub mod ReportTexts
