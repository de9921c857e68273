pub mod Answers
pub mod Exports
pub mod Parts
pub mod Rows
pub mod Sent
pub mod Tables
pub mod Writers
