pub mod Arguments
pub mod Blame
pub mod Command
pub mod Help
pub mod Numbers
pub mod Plan
pub mod Words
pub mod WrongWords
