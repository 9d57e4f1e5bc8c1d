pub mod Digits
pub mod EventKinds
pub mod EventTexts
pub mod Events
pub mod Grammar
pub mod Headers
pub mod Kinds
pub mod Manage
pub mod ManageKinds
pub mod Nodes
pub mod Printed
pub mod Script
pub mod Text
pub mod Texts
mod Unshared
pub mod Values
