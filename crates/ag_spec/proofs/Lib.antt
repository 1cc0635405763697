mod LineReadings
mod LineFaults
mod OneAgSaying
mod Examples
mod Crowds
mod ItemNames
