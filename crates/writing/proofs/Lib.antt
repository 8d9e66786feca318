pub mod Marks
pub mod Puts
pub mod Back
pub mod Loads
pub mod Writes
pub mod Unique
pub mod Once
