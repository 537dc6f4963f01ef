-- The rules of the house: its state, each call's answer and what it leaves, and the promise over whole
-- runs. Read in this order.
pub mod Refusals
pub mod Terms
pub mod State
pub mod Money
pub mod Calls
pub mod Rowwork
pub mod Payments
pub mod Clearing
pub mod Statement
pub mod Publishing
pub mod Quoting
pub mod Questions
pub mod Settling
pub mod Sound
pub mod Ledger
pub mod Runs
pub mod Promise
