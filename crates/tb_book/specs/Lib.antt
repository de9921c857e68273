pub mod Books
pub mod Indexes
pub mod Stored
