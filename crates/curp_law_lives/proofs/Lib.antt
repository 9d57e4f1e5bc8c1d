mod Orders
mod Batches
mod Runs
mod Events
