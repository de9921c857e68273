pub mod Rows
pub mod Filing
pub mod Texts
pub mod Telling
