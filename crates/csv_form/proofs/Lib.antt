pub mod Spans
pub mod LineLaws
pub mod Fields
pub mod Sheets
