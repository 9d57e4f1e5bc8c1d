mod Begun
mod Ends
mod Runs
