-- What `specs/` holds: where the lists of luma or of chroma stand.
pub mod Spans
