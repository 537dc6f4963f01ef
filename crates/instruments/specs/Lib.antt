-- What ceilings, faults and contracts mean. Read in this order.
pub mod Bounds
pub mod Faults
pub mod Meaning
pub mod Rules
pub mod Vanilla
pub mod Spread
pub mod Pair
pub mod Either
pub mod Worked
-- The rest are proofs, that each kind keeps the rules: a law of an impl can cite nothing outside specs/.
pub mod EitherRules
pub mod OptionRules
pub mod PairRules
pub mod SpreadRules
