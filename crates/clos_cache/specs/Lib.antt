pub mod Key
pub mod KeyLaws
pub mod Cache
pub mod Uses
pub mod inner
pub mod KeyView
pub mod CacheView
pub mod ChangeView
