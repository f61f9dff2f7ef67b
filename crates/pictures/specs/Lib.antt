-- What `specs/` holds: a list stored into another, what holds where the settings do not say, the shape of a plane, its rows, texts, how many samples differ, and what must not be said.
pub mod Storing
pub mod Defaults
pub mod Shapes
pub mod Rows
pub mod Texts
pub mod Changes
pub mod Outside
