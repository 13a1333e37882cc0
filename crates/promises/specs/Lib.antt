pub mod Promises
pub mod Movements
pub mod Witnesses
pub mod Sound
