pub mod Gives
mod Events
mod Moving
mod Results
mod Searches
mod Orders
mod Verdicts
mod Inputs
mod Numbers
mod Deliveries
mod AnyOrder
mod Trips
mod Apart
mod OpeningOwners
mod Opening
