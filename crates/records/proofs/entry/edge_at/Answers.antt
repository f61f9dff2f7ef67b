-- `records::edge_at` meets its contract: each number is read where the entry has it. Assumes nothing.
-- src/entry.rt:51:13
use native.Mathlib.Omega.{arith}
use borrow.Author.Rules.{rules}
use Rattle.rules.specs.Record.{edge_in}
use Rattle.low_first.proofs.two_at.Reads as two-at-reads
use Rattle.records.proofs.entry.wide.Reads as wide-reads
use Rattle.records.proofs.entry.edge_at.Goals as goal

pub returns : goal.returns
unfolding edge_in
returns c = ((cc), omega arith, omega arith)
