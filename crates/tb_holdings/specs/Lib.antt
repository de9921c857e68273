pub mod Holdings
pub mod Marks
pub mod Book
pub mod Refusals
pub mod Runs
