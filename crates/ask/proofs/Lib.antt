pub mod Asking
pub mod Cutting
pub mod Answering
pub mod Asked
