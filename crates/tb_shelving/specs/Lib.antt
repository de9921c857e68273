pub mod Shelving
pub mod Rooms
pub mod Standings
