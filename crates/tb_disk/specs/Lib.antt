pub mod Steps
pub mod Past
pub mod Disks
pub mod Notes
pub mod Logging
pub mod Memory
pub mod Files
pub mod Sentences
