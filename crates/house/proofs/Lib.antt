pub mod Kept
pub mod Clears
pub mod Publishes
pub mod Listed
pub mod Owed
