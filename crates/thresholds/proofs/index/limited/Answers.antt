-- `limited` is document 01's limits, by cases. Assumes nothing.
use native.Mathlib.Omega.{arith}
use borrow.Author.Rules.{rules}
use Rattle.thresholds.proofs.Indices.{limits}
use Rattle.thresholds.proofs.index.limited.Goals as goal

pub returns-then-i : goal.returns-then-i
returns-then-i c = limits _ _ _ (omega arith) (omega arith)

pub returns-then-n-low : goal.returns-then-n-low
returns-then-n-low c = limits _ _ _ (omega arith) (omega arith)

pub returns-then-high-n : goal.returns-then-high-n
returns-then-high-n c = limits _ _ _ (omega arith) (omega arith)

pub returns : goal.returns
returns c = limits _ _ _ (omega arith) (omega arith)
