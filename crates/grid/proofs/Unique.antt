-- Two results that an entry's promise allows are equal.
-- Assumes nothing.
use mathlib.Core.Path.{◌≡◌, sym, ◌∙◌}
use mathlib.Core.List.{List}
use Prim.Native.Nat.{ℕ}
use Rattle.rules.specs.declared.settings.TuGrid.{TuGrid}
use Rattle.rules.specs.Refusals.{Answer}
use Rattle.rules.specs.TuGrid.{Marks}
use Rattle.grid.specs.Stated.{Stated}

pub tx_unique : {s : TuGrid} {ls skips : List ℕ} {g : Marks} {k : List ℕ} {a b : Answer} {m1 m2 : Marks} {n1 n2 : List ℕ} → Stated s ls skips g k a m1 n1 → Stated s ls skips g k b m2 n2 → (a ≡ b) × (m1 ≡ m2) × (n1 ≡ n2)
tx_unique p q = (p.answer ∙ sym q.answer, p.lists ∙ sym q.lists, p.cleared ∙ sym q.cleared)
