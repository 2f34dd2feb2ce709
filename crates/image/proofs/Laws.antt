-- What stands here is there for proofs.
pub mod Answer
pub mod Image
pub mod Save
pub mod Load
pub mod Saved
pub mod Loaded
pub mod Table
pub mod Images
pub mod WorkedImage
