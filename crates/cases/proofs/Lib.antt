pub mod Putting
pub mod Answered
pub mod Refusing
pub mod Cutting
pub mod Listed
