-- `filter_lone` gives each number exactly when document 01's test for it fails and those before it hold; and it accepts something.
-- Assumes nothing.
use mathlib.Core.Path.{◌≡◌, refl, ap, ◌∙◌}
use mathlib.Core.List.{List}
use Prim.Native.Nat.{ℕ}
use Rattle.rules.specs.declared.settings.Lone.{Lone}
use Rattle.rules.specs.Refusals.{Answer}
use Rattle.std.specs.declared.result.Result.TheVariants.{Ok, Err}
use Rattle.std.specs.declared.result.Result.{Result}
use Rattle.rules.specs.declared.refusals.Refusal.{Refusal}
use Rattle.rules.specs.Lone.{lone_check, answer_width, lone_width}
use Rattle.rules.specs.Figures.{flat}
use Rattle.rules.specs.Orders.{orders}
use Rattle.checks.specs.Exactly.{Exactly}
use Rattle.checks.proofs.Exactly.{exactly}
use Rattle.rules.specs.Refusals.{answered}
use Rattle.lone.specs.Exactly.{tests}

answered_is : (a : Answer) (w : ℕ) → answered (answer_width a w) ≡ a
unfolding answer_width
answered_is (Ok tt) w = refl
answered_is (Err r) w = refl

pub exactly_when : (s : Lone) (l : List ℕ) {r : Result ℕ Refusal} → r ≡ lone_width s l → Exactly (answered r) (tests s l)
unfolding lone_width lone_check
exactly_when s l e = exactly (tests s l) refl (ap answered e ∙ answered_is _ _)

-- the middle edge of 100 | 108
pub accepts : lone_check record { columns = 16; rows = 4; stride = 16; depth = 8; q = 8; side = 40; pair = 3; dir = 0; x = 8; y = 0 } (flat 100 108) ≡ Ok tt
accepts = orders.lone_good
