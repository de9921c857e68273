pub mod Calls
pub mod Closing
pub mod Meanings
pub mod Passes
pub mod Rule
pub mod Steps
pub mod Turns
pub mod Views
