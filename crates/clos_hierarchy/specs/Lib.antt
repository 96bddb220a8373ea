pub mod inner
pub mod Examples
pub mod Classes
pub mod Ways
pub mod Table
pub mod TableView
pub mod Initial
pub mod Outlook
