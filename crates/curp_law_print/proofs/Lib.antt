mod Bytes
mod Claims
mod Data
mod Events
mod Headers
mod Lines
mod Reading
mod Steps
