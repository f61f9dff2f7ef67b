-- What this crate's contracts say beyond the rules.
pub mod Records
