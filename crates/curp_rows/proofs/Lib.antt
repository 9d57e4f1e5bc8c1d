pub mod ListedStore
pub mod ListedLog
pub mod ListedMaster
pub mod ListedWorld
pub mod Computed
