pub mod Raw
pub mod Chunked
pub mod Answer
pub mod Kinds
pub mod Faults
