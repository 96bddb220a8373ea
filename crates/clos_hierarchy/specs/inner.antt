-- What stands behind the contracts: how the logic stores values, what is kept, what private functions answer.
pub mod KeptView
pub mod Kept
pub mod Below
pub mod Touched
pub mod Exchange
pub mod Finding
pub mod Direct
pub mod Woken
pub mod Waking
pub mod Told
