-- What the constant means, and what pairs with one answer. Read in this order.
pub mod Flat
pub mod Together
-- A proof, that the constant keeps the rules: a law of an impl can cite nothing outside specs/.
pub mod FlatRules
