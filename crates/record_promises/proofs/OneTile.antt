-- Ticket 5, "An empty list gives today's samples", of a recorded plane: its entries are those of document 01's edges (`edge_alone` in promises), and
-- its answer, record, plane and counts are those of one tile. Assumes nothing.
use Rattle.std.specs.declared.result.Result.{Result}
use mathlib.Core.Path.{◌≡◌, subst}
use mathlib.Core.List.{List, []}
use Prim.Native.Nat.{ℕ}
use Rattle.rules.specs.declared.settings.Plane.{Plane}
use Rattle.rules.specs.declared.counts.Visited.{Visited}
use Rattle.rules.specs.declared.refusals.Refusal.{Refusal}
use Rattle.rules.specs.Plane.{keeping}
use Rattle.recorded.specs.Stated.{Stated}

module _ (s : Plane) (steps v h w t q ks l b : List ℕ) where
  -- of whatever the entry may answer and leave with an empty list
  pub empty_list : (ts : List ℕ) → ts ≡ [] → {a : Result Visited Refusal} {m c : List ℕ} → Stated s steps (keeping v h w t q ts ks) l b a m c → Stated s steps (keeping v h w t q [] ks) l b a m c
  empty_list ts e {a} {m} {c} done = subst (λ (us : List ℕ). Stated s steps (keeping v h w t q us ks) l b a m c) e done
