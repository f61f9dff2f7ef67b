-- What `specs/` holds: where the entries of a list that is due stand.
pub mod Due
