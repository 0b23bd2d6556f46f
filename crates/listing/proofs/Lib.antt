pub mod Digits
pub mod Opened
pub mod Texts
pub mod Sessions
pub mod Shown
pub mod Exactly
pub mod Samples
