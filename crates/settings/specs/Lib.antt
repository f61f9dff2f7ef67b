-- What `specs/` holds: the names, where their numbers go, how they are read, a line, the whole text, and which line has a setting.
pub mod Kinds
pub mod Names
pub mod Rules
pub mod Values
pub mod Lines
pub mod Text
pub mod Walked
pub mod Numbered
