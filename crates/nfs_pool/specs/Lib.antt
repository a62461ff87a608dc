pub mod Eras
pub mod Marked
pub mod Passes
pub mod Seats
pub mod Steps
