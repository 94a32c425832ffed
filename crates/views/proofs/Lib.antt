pub mod Boxes
pub mod Anew
pub mod LegalView
pub mod DeskRows
pub mod Laid
pub mod FreshBox
pub mod EveryBox
