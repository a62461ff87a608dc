pub mod Calls
pub mod Grants
pub mod Plans
pub mod Reads
pub mod Settings
pub mod Writes
