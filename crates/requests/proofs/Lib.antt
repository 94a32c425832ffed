pub mod Asked
pub mod Values
pub mod Behind
pub mod Denied
pub mod BoxReads
pub mod Apart
