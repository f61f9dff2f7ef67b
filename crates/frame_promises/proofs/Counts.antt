-- Ticket 4 of whatever `deblock_frame` may answer: stored is at most 64 for each edge that its filtered planes can have, changed is never
-- more, both fit 64 bits with much to spare, and a refusal reports zero for both.
-- Assumes nothing.
use mathlib.Core.Path.{◌≡◌, refl, sym, ap, ◌∙◌}
use mathlib.Core.Bool.{Bool, true, false}
use Prim.Native.Nat.{ℕ, ◌+◌, ◌*◌, ◌≤◌}
use native.Mathlib.Omega.{arith}
use Rattle.laws.specs.Choose.{pick}
use Rattle.rules.specs.declared.settings.Frame.{Frame}
use Rattle.rules.specs.declared.refusals.Refusal.{Refusal}
use Rattle.rules.specs.Refusals.{Answer}
use Rattle.std.specs.declared.result.Result.TheVariants.{Ok, Err}
use Rattle.std.specs.declared.result.Result.{Result}
use Rattle.rules.specs.declared.counts.Counts.{Counts}
use Rattle.rules.specs.Refusals.{answered, changed_in, stored_in}
use Rattle.rules.specs.Refusals.{settle}
use Rattle.rules.specs.Frame.{Grids, Given, Lent, chroma_on, built_grids, run_frame_stored, run_frame_changed, frame_of, frame_stored, frame_changed}
use Rattle.promises.proofs.Counts.{plane_changed_holds, plane_stored_holds, plane_fits}
use Rattle.frame.specs.Stated.{Stated}
use Rattle.frame_promises.specs.Counts.{most_stored}
use Rattle.frame_promises.proofs.Planes.{luma_accepted, u_accepted, v_accepted}

-- luma's number, and U's and V's where chroma is filtered
sum_most : (t : Bool) {y u v a b c : ℕ} → y ≤ a → (t ≡ true → u ≤ b) → (t ≡ true → v ≤ c) → y + pick t u 0 + pick t v 0 ≤ a + pick t b 0 + pick t c 0
unfolding pick
sum_most true p q r = omega (arith, p, q refl, r refl)
sum_most false p q r = omega (arith, p)

pick_most : (t : Bool) (n : ℕ) → pick t n 0 ≤ n
unfolding pick
pick_most true n = omega arith
pick_most false n = omega arith

module _ (f : Frame) (n : Given) (l : Lent) where
  abbrev built : Grids
  built = built_grids f n l.grids

  frame_changed_holds : run_frame_changed f n.steps built l.planes ≤ run_frame_stored f n.steps built l.planes
  unfolding run_frame_stored run_frame_changed
  frame_changed_holds = sum_most (chroma_on f) (plane_changed_holds _ _ _ _) (λ _. plane_changed_holds _ _ _ _) (λ _. plane_changed_holds _ _ _ _)

  -- ---- an accepted frame

  module _ (ok : (frame_of f n l).answer ≡ Ok tt) where
    frame_stored_holds : run_frame_stored f n.steps built l.planes ≤ most_stored f
    unfolding run_frame_stored
    frame_stored_holds =
        sum_most (chroma_on f) (plane_stored_holds _ _ _ _ (luma_accepted f n l ok)) (λ on. plane_stored_holds _ _ _ _ (u_accepted f n l ok on)) (λ on. plane_stored_holds _ _ _ _ (v_accepted f n l ok on))

    -- three planes of the largest size
    frame_fits : run_frame_stored f n.steps built l.planes ≤ 402259968
    unfolding run_frame_stored
    frame_fits =
        omega
        (arith, sum_most (chroma_on f) (plane_fits _ _ _ _ (luma_accepted f n l ok)) (λ on. plane_fits _ _ _ _ (u_accepted f n l ok on)) (λ on. plane_fits _ _ _ _ (v_accepted f n l ok on)), pick_most (chroma_on f) 134086656)

  -- ---- whatever the entry may answer

  module _ {a : Result Counts Refusal} {m : Lent} (done : Stated f n l a m) where
    pub counts_most : (stored_in a ≤ most_stored f) × (changed_in a ≤ stored_in a) × (stored_in a ≤ 402259968)
    unfolding frame_stored frame_changed settle
    counts_most = go (frame_of f n l).answer refl done.stored done.changed
      where
        go : (x : Answer) → (frame_of f n l).answer ≡ x → {u v : ℕ} → u ≡ settle x 0 (run_frame_stored f n.steps built l.planes) → v ≡ settle x 0 (run_frame_changed f n.steps built l.planes) → (u ≤ most_stored f) × (v ≤ u) × (u ≤ 402259968)
        go (Ok tt) ok p q = (rw p (frame_stored_holds ok), rw (p, q) frame_changed_holds, rw p (frame_fits ok))
        go (Err r) ok p q = (omega (arith, p), omega (arith, p, q), omega (arith, p))

    -- "A refusal reports zero for both."
    pub counts_refused : {r : Refusal} → answered a ≡ Err r → (stored_in a ≡ 0) × (changed_in a ≡ 0)
    unfolding frame_stored frame_changed settle
    counts_refused e =
        let no = sym done.answer ∙ e in (
          done.stored ∙ ap (λ (x : Answer). settle x 0 (run_frame_stored f n.steps built l.planes)) no,
          done.changed ∙ ap (λ (x : Answer). settle x 0 (run_frame_changed f n.steps built l.planes)) no,
        )
