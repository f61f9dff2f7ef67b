-- What `specs/` holds: where the records stand in their list, and a plane's settings to run one again.
pub mod Held
pub mod Again
