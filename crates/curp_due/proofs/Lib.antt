mod Driven
mod Due
mod Recovering
