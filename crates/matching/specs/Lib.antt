-- The orders of a house, what a matching of them costs and owes, and the test by weights. Read in this order.
pub mod Sums
pub mod Rows
pub mod Fills
pub mod Weights
pub mod Figures
pub mod Appraisal
pub mod Quotes
pub mod Legs
pub mod Candidates
pub mod Laws
pub mod QuoteLaws
pub mod WorkedBooks
