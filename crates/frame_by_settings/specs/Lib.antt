-- What `specs/` holds: a frame deblocked over grids of zeros, and the frame by the settings' own lists.
pub mod Deblocked
pub mod Framed
