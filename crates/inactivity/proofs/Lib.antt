pub mod Apart
pub mod Calls
pub mod Invariant
pub mod Laws
pub mod Readings
pub mod Samples
