-- What stands here is there for proofs: laws of the definitions beside this folder, and the proofs of the statements.
pub mod Reader
pub mod Held
pub mod Reads
pub mod WorkedTrace
pub mod Traces
