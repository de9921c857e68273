pub mod Movements
pub mod Holdings
pub mod Marks
pub mod Legal
pub mod Told
pub mod Credits
pub mod Translated
