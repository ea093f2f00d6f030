pub mod Question
pub mod Figures
pub mod Answer
pub mod Short
