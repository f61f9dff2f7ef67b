-- `bytes_of` goes by the kind of answer. Assumes nothing.
use borrow.Author.Rules.{rules}
use Rattle.edge_record.specs.Noted.{bytes_of}
use Rattle.edge_record.proofs.entries.bytes_of.Goals as goal

pub returns-in-Ok : goal.returns-in-Ok
unfolding bytes_of
returns-in-Ok c = search rules

pub returns-in-Err : goal.returns-in-Err
unfolding bytes_of
returns-in-Err c = search rules
