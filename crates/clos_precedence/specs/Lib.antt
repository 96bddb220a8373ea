pub mod Precedence
pub mod PrecedenceView
pub mod OrderView
pub mod Examples
