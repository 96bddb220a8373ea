pub mod Objects
pub mod Store
pub mod Update
pub mod UpdateView
pub mod inner
pub mod StoreFault
