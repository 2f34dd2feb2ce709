pub mod Rerun
pub mod Standing
pub mod WorkedRerun
pub mod Reruns
