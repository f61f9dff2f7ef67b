pub mod Apart
pub mod Equal
