pub mod Circle
pub mod DefinitionView
pub mod inner
