pub mod Everys
pub mod Loops
pub mod Ranges
pub mod Taken
