-- What `specs/` holds: formats, headers and rows of samples.
pub mod Formats
pub mod Headers
pub mod Rows
