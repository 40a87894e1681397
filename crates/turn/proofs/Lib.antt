-- A sighting, a turn's cases, that every drive ends, a drive that is under way, and document 01's example, computed.
pub mod SightingLaws
pub mod TurnCases
pub mod EveryDriveEnds
pub mod DriveUnderWay
pub mod Example
