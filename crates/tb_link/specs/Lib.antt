pub mod Counts
pub mod Sources
pub mod Sinks
pub mod Memory
pub mod Streams
