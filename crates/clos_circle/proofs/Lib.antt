pub mod WayUp
pub mod Before
