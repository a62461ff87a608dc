pub mod Changing
pub mod Handles
pub mod Messages
pub mod Mount
pub mod Nlm
pub mod NlmTypes
pub mod Parts
