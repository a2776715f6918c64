pub mod Faults
pub mod Pass
pub mod Put
