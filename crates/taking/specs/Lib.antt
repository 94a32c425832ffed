pub mod Taking
pub mod Listed
