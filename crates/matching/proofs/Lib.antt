pub mod Totals
pub mod Running
pub mod Lowest
pub mod Walks
pub mod Integers
pub mod Duality
pub mod Peak
pub mod QuoteDuality
pub mod Places
pub mod Tries
pub mod Reserves
pub mod Amounts
pub mod Told
pub mod Books
mod Weighing
