pub mod Newest
pub mod Spelt
pub mod Verdicts
