pub mod Image
pub mod Answer
pub mod Save
pub mod Load
pub mod Table
pub mod Images
pub mod WorkedImage
