-- `chroma_lengths` counts only where chroma is filtered. Assumes nothing.
use Rattle.frame_checks.proofs.Accepted.{frame_sized, chroma_by}
use Rattle.checks.proofs.Checks.{checks}
use Rattle.frame_checks.proofs.list_lengths.chroma_lengths.Goals as goal

pub returns-then-not-chroma_on : goal.returns-then-not-chroma_on
returns-then-not-chroma_on c = search checks

pub chroma_long-requires : goal.chroma_long-requires
chroma_long-requires c = (frame_sized _ c.requires, chroma_by _ c.requires c.chroma_on.ensures c.if-not-chroma_on.false-raw)

pub returns-then-not-chroma_long : goal.returns-then-not-chroma_long
returns-then-not-chroma_long c = search checks

pub returns : goal.returns
returns c = search checks
