-- `record_plane` gives each refusal number, with its place, exactly when its test fails there and those before it hold.
-- Assumes nothing.
use Rattle.std.specs.declared.result.Result.{Result}
use mathlib.Core.Path.{◌≡◌, refl, ap, ◌∙◌}
use mathlib.Core.List.{List, [], ◌∷◌, ◌++◌}
use Prim.Native.Nat.{ℕ}
use lib.ListN.{length}
use Rattle.rules.specs.declared.settings.Plane.{Plane}
use Rattle.rules.specs.Refusals.{Answer}
use Rattle.std.specs.declared.result.Result.TheVariants.{Ok, Err}
use Rattle.rules.specs.declared.counts.Visited.{Visited}
use Rattle.rules.specs.declared.refusals.Refusal.{Refusal}
use Rattle.rules.specs.Refusals.{answered, length_told}
use Rattle.rules.specs.Refusals.{or_else}
use Rattle.rules.specs.Plane.{Grid}
use Rattle.rules.specs.Record.{recorded_check, answer_bytes, recorded_answer}
use Rattle.checks.specs.Exactly.{Check, chain, Exactly}
use Rattle.checks.proofs.Exactly.{chain_joined, exactly}
use Rattle.promises.specs.Exactly.{plane_tests}
use Rattle.promises.proofs.Exactly.{plane_chain}
use Rattle.recorded.specs.Stated.{Stated}
use Rattle.record_promises.specs.Exactly.{room_test, recorded_tests}

-- one more check after a chain
one_more : (cs : List Check) (d : Check) → or_else (chain cs) (chain (d ∷ [])) ≡ chain (cs ++ (d ∷ []))
unfolding or_else
one_more [] d = refl
one_more (c ∷ cs) d = chain_joined c cs (d ∷ [])

answered_is : (a : Answer) (k : ℕ) → answered (answer_bytes a k) ≡ a
unfolding answer_bytes
answered_is (Ok tt) k = refl
answered_is (Err r) k = refl

module _ (s : Plane) (steps : List ℕ) (g : Grid) (l : List ℕ) where
  pub recorded_exactly : (n : ℕ) {a : Answer} → a ≡ recorded_check s steps g l n → Exactly a (recorded_tests s steps g l n)
  unfolding recorded_check
  recorded_exactly n e =
      exactly (recorded_tests s steps g l n) refl (e ∙ ap (λ (x : Answer). or_else x (chain (room_test s g n ∷ []))) (plane_chain s steps g l) ∙ one_more (plane_tests s steps g l) (room_test s g n))

  -- of whatever the entry may answer
  pub stated_exactly : (b : List ℕ) {a : Result Visited Refusal} {m c : List ℕ} → Stated s steps g l b a m c → Exactly (answered (length_told a)) (recorded_tests s steps g l (length b))
  unfolding recorded_answer
  stated_exactly b done = recorded_exactly (length b) (ap answered done.answer ∙ answered_is (recorded_check s steps g l (length b)) _)
