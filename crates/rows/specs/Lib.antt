pub mod Row
pub mod Change
