-- `df_quant_from_qindex` is the q threshold of the step. Assumes nothing.
use mathlib.Core.Path.{ap, ◌∙◌}
use Rattle.rules.specs.Thresholds.{quant_of}
use Rattle.thresholds.proofs.Quants.{step_most}
use borrow.Author.Rules.{rules}
use Rattle.thresholds.proofs.steps.df_quant_from_qindex.Goals as goal

pub quant-requires : goal.quant-requires
quant-requires c = rw c.ac_quant_qtx.ensures (step_most _ _ _ c.requires.0 c.requires.1)
