pub mod Detector
pub mod Source
pub mod Detects
