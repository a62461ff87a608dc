pub mod Answering
pub mod Checks
pub mod Comes
pub mod Freeing
pub mod Granted
pub mod Holders
pub mod Plans
