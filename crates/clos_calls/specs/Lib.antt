pub mod GenericCalls
