pub mod Claim
pub mod Found
pub mod Packed
pub mod Stages
pub mod Verdict
