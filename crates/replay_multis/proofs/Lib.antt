mod Stepping
mod Writing
mod Naming
mod Restoring
mod Emptying
