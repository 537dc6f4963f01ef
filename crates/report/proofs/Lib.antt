pub mod Places
pub mod Figures
pub mod Lines
pub mod ReadBack
