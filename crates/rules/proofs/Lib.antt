pub mod Rows
pub mod TrackRuns
