pub mod Ahead
pub mod Benches
pub mod Drawing
