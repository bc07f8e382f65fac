mod Partings
mod Readings
mod Equal
