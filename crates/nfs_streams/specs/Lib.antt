pub mod Connections
pub mod Datagrams
pub mod Inside
pub mod Sent
pub mod Served
pub mod Serving
pub mod Taken
