pub mod RecordSteps
pub mod Found
pub mod CellSteps
pub mod Search
pub mod Chunks
