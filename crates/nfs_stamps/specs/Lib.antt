pub mod Marking
pub mod Rules
