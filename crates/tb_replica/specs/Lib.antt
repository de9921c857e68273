pub mod Window
pub mod Delivery
pub mod Following
pub mod Arrival
pub mod Followers
pub mod Adding
pub mod Crashes
