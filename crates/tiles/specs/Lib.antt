-- The words in which a leaf's functions speak of what the checks have passed.
pub mod Fit
