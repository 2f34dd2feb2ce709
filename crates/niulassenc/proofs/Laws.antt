-- What stands here is there for proofs.
pub mod Owner
pub mod Wrap
pub mod WorkedAnswers
