pub mod LampTests
pub mod Looks
