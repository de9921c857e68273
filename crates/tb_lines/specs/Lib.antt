pub mod Told
pub mod LineEnds
pub mod Pieces
pub mod Lines
pub mod Reads
