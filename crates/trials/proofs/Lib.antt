pub mod Rows
pub mod Days
pub mod Table
