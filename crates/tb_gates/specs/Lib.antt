pub mod Links
pub mod Gates
pub mod Clocks
pub mod Memory
pub mod Tcp
