pub mod Replied
