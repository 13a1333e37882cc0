pub mod Cells
pub mod Words
pub mod Counts
pub mod Kinds
pub mod Places
