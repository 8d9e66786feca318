pub mod Format
pub mod Heads
pub mod Verdicts
pub mod CardTables
pub mod CardFormed
pub mod Views
