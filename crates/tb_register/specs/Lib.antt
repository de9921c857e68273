pub mod Rows
pub mod Tables
pub mod Making
pub mod Keepers
pub mod Memory
