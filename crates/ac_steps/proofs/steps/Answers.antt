-- `steps` is the table: a list of 352 entries, all of them put. Assumes nothing.
use Prim.Native.Nat.{ℕ}
use lib.ListN.{replicate, length-replicate}
use Rattle.ac_steps.proofs.Following.{whole}
use Rattle.ac_steps.proofs.steps.Goals as goal

pub returns : goal.returns
returns c = whole (replicate 352 0) (length-replicate {A = ℕ} 352 0) c.put_steps.ensures
