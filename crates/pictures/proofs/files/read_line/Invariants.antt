-- `read_line` takes a byte a turn, up to a newline. Assumes nothing.
use Prim.Native.Nat.{◌≤◌}
use mathlib.Core.Path.{◌≡◌}
use lib.ListN.{length}
use Rattle.pictures.proofs.Texts.{Reading}
use Rattle.pictures.proofs.files.read_line.Given as goal

abbrev pub invariant-loop-n : goal.invariant-loop-n
invariant-loop-n l = (l.n ≤ length l.initial.buf) × (length l.buf ≡ length l.initial.buf) × Reading l.initial.buf l.buf l.n
