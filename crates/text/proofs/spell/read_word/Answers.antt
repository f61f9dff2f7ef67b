-- `read_word` is the letters, or 0 where another byte follows them. Assumes nothing.
use Rattle.text.proofs.Spelling.{spelling as needs}
use Rattle.text.proofs.spell.read_word.Goals.{else-next-end-via-then-next-end+else-not-blank, else-next-end-via-else-next-end}
use Rattle.text.proofs.spell.read_word.Goals as goal

pub returns-then-not-blank-clause-value : goal.returns-then-not-blank-clause-value
returns-then-not-blank-clause-value c = search needs

pub returns-clause-value : goal.returns-clause-value
returns-clause-value c = elim c.else-next-end.branch [
  | else-next-end-via-then-next-end+else-not-blank w ↦ search needs
  | else-next-end-via-else-next-end w ↦ search needs
]
