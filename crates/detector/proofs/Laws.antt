-- What stands here is there for proofs: laws of the definitions beside this folder, and the proofs of the statements.
pub mod Observe
pub mod Detects
pub mod WorkedDetects
