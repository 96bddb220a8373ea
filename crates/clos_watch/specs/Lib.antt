pub mod Answers
pub mod Handed
pub mod Reserved
pub mod Rows
pub mod Watching
