-- What stands here is there for proofs.
pub mod Cases
pub mod Search
