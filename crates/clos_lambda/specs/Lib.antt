pub mod Lists
pub mod Sections
pub mod PlainForm
pub mod Property
pub mod LambdaList
