pub mod HeadRows
pub mod Finds
