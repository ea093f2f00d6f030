pub mod Play
pub mod Runs
pub mod Demand
pub mod Compile
pub mod Fills
pub mod Text
pub mod Readback
pub mod Prints
