-- `one_more` has room for a letter. Assumes nothing.
use native.Mathlib.Omega.{arith}
use Rattle.text.proofs.Spelling.{goes_room}
use Rattle.text.proofs.spell.one_more.Goals as goal

pub overflow_mul-result : goal.overflow_mul-result
overflow_mul-result c = let g = goes_room _ _ c.requires in omega arith

pub overflow_add-result : goal.overflow_add-result
overflow_add-result c = let g = goes_room _ _ c.requires in omega arith
