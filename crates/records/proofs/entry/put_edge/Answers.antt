-- `records::put_edge` meets its contract: its three numbers are the entry's bytes. Assumes nothing.
-- src/entry.rt:34:30
use borrow.Author.Rules.{rules}
use Rattle.records.proofs.RoundTrip.{entries}
use Rattle.low_first.proofs.put_four.Reads as put-four-reads
use Rattle.low_first.proofs.put_two.Reads as put-two-reads
use Rattle.records.proofs.entry.four.Reads as four-reads
use Rattle.records.proofs.entry.two.Reads as two-reads
use Rattle.records.proofs.entry.put_edge.Goals as goal

pub returns : goal.returns
returns c = search entries
