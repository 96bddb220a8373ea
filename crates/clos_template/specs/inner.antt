pub mod OperatorCode
pub mod TemplateCode
pub mod ScopeCode
