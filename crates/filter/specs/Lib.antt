-- What `specs/` holds: how long the lists of the settings are.
pub mod Lent
