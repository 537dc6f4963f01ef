pub mod View
pub mod Judging
pub mod Listing
