pub mod Types
pub mod Reading
pub mod Writing
pub mod Laws
pub mod Programs
