-- What `specs/` holds: the record of luma or chroma by a frame and what the settings give.
pub mod Noted
