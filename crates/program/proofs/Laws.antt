-- What stands here is there for proofs.
pub mod Hash
