mod OriginalReadings
mod OriginalStorings
mod Storings
