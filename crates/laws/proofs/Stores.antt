-- What closes the needs of code that stores.
-- Assumes nothing.
use Rattle.std.proofs.Common.{rules}
use Rattle.laws.specs.Stores.{puts_one, puts_then, puts_none, puts_more, puts_end}

pub ruleset storing = (rules, puts_one, puts_then, puts_none, puts_more, puts_end)
