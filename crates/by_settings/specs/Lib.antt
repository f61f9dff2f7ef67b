-- What `specs/` holds: the rooms and kinds of the settings, the settings' numbers and lists by their places, places of refusals, CCSO over the planes, and the cells that are kept.
pub mod Rooms
pub mod Numbers
pub mod Lists
pub mod Places
pub mod Offsets
pub mod Kept
