-- The words in which the grid's functions speak of what the checks have passed, of how they start, what its entry states, and its tests in their order.
pub mod Fit
pub mod Start
pub mod Stated
pub mod Exactly
