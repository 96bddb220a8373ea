pub mod inner
pub mod Command
pub mod Request
pub mod Waiting
pub mod WaitingView
pub mod Prompt
