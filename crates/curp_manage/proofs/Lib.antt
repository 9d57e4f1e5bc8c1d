mod Given
mod Headers
mod Lines
mod Orders
mod Room
mod Stops
mod Left
