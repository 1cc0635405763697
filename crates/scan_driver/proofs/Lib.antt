mod Behind
mod Flags
mod FurthestRuns
mod NextOfTables
mod RunsAlong
mod SplitsLeft
