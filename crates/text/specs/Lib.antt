-- What `specs/` holds: places and words, digits, numbers, typed numbers and lists.
pub mod Places
pub mod Words
pub mod Digits
pub mod Numbers
pub mod Typed
pub mod Lists
