-- Ticket 6: "Prove that it answers as the scheduled one on every input, refusals included." The plain engine and `deblock_plane` side by side.
-- Assumes nothing.
use mathlib.Core.Path.{◌≡◌}
use mathlib.Core.List.{List}
use Prim.Native.Nat.{ℕ}
use Rattle.rules.specs.declared.settings.Plane.{Plane}
use Rattle.std.specs.declared.result.Result.{Result}
use Rattle.rules.specs.declared.counts.Counts.{Counts}
use Rattle.rules.specs.declared.refusals.Refusal.{Refusal}
use Rattle.rules.specs.Refusals.{answered, changed_in, stored_in}
use Rattle.rules.specs.Plane.{keeping}
use Rattle.plane.specs.Checked.{Stated}
use Rattle.plane.proofs.Unique.{one_result}

-- of one plane l with one set of lists and settings, whatever they are: `deblock_plane` answered a and left m, `deblock_plane_plain` answered b and left n
pub engines_agree : {s : Plane} {steps v h w t q ts ks l : List ℕ} {a b : Result Counts Refusal} {m n : List ℕ} → Stated s steps (keeping v h w t q ts ks) l a m → Stated s steps (keeping v h w t q ts ks) l b n
    → (answered a ≡ answered b) × (m ≡ n) × (stored_in a ≡ stored_in b) × (changed_in a ≡ changed_in b)
engines_agree scheduled plain = one_result scheduled plain
