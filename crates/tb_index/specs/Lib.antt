pub mod Listed
pub mod Indexes
