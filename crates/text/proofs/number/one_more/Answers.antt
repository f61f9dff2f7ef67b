-- `one_more` adds a digit: the value stays below 10^18, so nothing wraps. Assumes nothing.
use native.Mathlib.Omega.{arith}
use Rattle.text.proofs.Runs.{goes}
use borrow.Author.Rules.{rules}
use Rattle.text.proofs.number.one_more.Goals as goal

pub overflow_mul-result : goal.overflow_mul-result
overflow_mul-result c = let g = goes _ _ c.requires in omega arith

pub overflow_sub-b : goal.overflow_sub-b
overflow_sub-b c = let g = goes _ _ c.requires in omega arith

pub overflow_add-result : goal.overflow_add-result
overflow_add-result c = let g = goes _ _ c.requires in omega arith

pub returns : goal.returns
returns c = let g = goes _ _ c.requires in (search rules, omega arith)
