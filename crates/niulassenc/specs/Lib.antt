pub mod About
pub mod Answer
pub mod Cut
pub mod Owner
pub mod WorkedAnswers
