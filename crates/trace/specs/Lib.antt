pub mod Trace
pub mod Reader
pub mod WorkedTrace
pub mod Traces
