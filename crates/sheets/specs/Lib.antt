pub mod Held
pub mod Drafts
pub mod Sheets
