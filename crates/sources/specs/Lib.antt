pub mod Heads
pub mod Answers
pub mod Benches
pub mod Formed
pub mod BenchFormed
