pub mod Lists
pub mod Host
pub mod Numbers
pub mod WhichLength
