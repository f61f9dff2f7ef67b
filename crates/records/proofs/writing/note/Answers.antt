-- `records::note` meets its contract: the entry at its place, or the buffer as it was. Assumes nothing.
-- src/writing.rt:29:23
use borrow.Author.Rules.{rules}
use Rattle.records.proofs.Noted.{notes}
use Rattle.records.proofs.entry.put_edge.Reads as put-edge-reads
use Rattle.records.proofs.writing.note.Goals as goal

pub returns-then-buffer-at : goal.returns-then-buffer-at
returns-then-buffer-at c = search notes

pub returns : goal.returns
returns c = search notes
