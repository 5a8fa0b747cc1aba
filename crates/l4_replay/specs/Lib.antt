pub mod CoreRuns
pub mod Entries
pub mod Inner
pub mod Stations
pub mod UnderWay
