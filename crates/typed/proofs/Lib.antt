pub mod Bytes
pub mod Telling
pub mod TypedBack
