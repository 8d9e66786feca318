pub mod Unnesting
pub mod Translated
pub mod Made
pub mod Places
