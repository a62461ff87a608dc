pub mod Entries
pub mod Kept
pub mod Keys
pub mod Laws
pub mod Lists
pub mod Origins
pub mod Replies
pub mod Worked
