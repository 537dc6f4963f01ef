-- The table of worked trials.
pub mod Trials
