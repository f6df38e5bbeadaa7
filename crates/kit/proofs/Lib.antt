pub mod Choice
pub mod Legal
pub mod Lists
pub mod Stores
pub mod Numbers
