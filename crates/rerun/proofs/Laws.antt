-- What stands here is there for proofs.
pub mod Decimal
pub mod Line
pub mod Standing
pub mod WorkedRerun
pub mod Reruns
