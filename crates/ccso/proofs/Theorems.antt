-- What a call of the entry leaves, sample by sample, in the rules' terms. Luma, flags and offsets are lent for reading only, so they are as lent.
-- Assumes nothing.
use mathlib.Core.Path.{◌≡◌, refl, sym, ap, ◌∙◌}
use mathlib.Core.Bool.{Bool, true, false}
use mathlib.Core.List.{List}
use Prim.Native.Nat.{ℕ, ◌+◌, ◌*◌, ◌≤◌, ◌<◌}
use native.Mathlib.Omega.{arith}
use borrow.Author.Tests.{eq-eqb}
use lib.Dec.{eqb}
use lib.ListN.{get_or, length}
use lib.IntN.{ℤ, pos, ◌+ℤ◌, ◌*ℤ◌}
use Rattle.laws.specs.Choose.{pick}
use Rattle.laws.specs.Whole.{limit_most}
use Rattle.rules.specs.declared.settings.Ccso.{Ccso}
use Rattle.rules.specs.declared.refusals.Refusal.{Refusal}
use Rattle.rules.specs.Refusals.{Answer}
use Rattle.std.specs.declared.result.Result.TheVariants.{Ok, Err}
use Rattle.rules.specs.Numbers.{top_of}
use Rattle.rules.specs.Ccso.{target_width, target_height, block_of, place_at, offset_sample, sample_at, ccso_check, ccso_of, ccso_after}
use Rattle.checks.proofs.Checks.{settle_refused, settle_accepted}
use Rattle.ccso.specs.Stated.{Stated}
use Rattle.ccso_sample.proofs.Places.{cell_below}
use Rattle.ccso.proofs.Accepted.{accepted, target_low}
use Rattle.ccso.proofs.Everywhere.{target_length, target_at, target_past}

offset_most : (s : Ccso) (v : ℕ) (z : ℤ) → offset_sample s v z ≤ top_of s.depth
unfolding offset_sample
offset_most s v z = limit_most (top_of s.depth) (pos v +ℤ z *ℤ pos s.scale)

-- a sample of the rules, where its block's flag is 0, and where it is lent within 0..top
module _ (s : Ccso) (luma flags : List ℕ) (offsets : List ℤ) (x y v : ℕ) where
  sample_off : get_or flags (block_of s x y) 0 ≡ 0 → sample_at s luma flags offsets x y v ≡ v
  unfolding sample_at pick
  sample_off e = rw (eq-eqb _ _ e)

  sample_low : v ≤ top_of s.depth → sample_at s luma flags offsets x y v ≤ top_of s.depth
  unfolding sample_at pick
  sample_low h = go (eqb (get_or flags (block_of s x y) 0) 0) (offset_most s v (get_or offsets (place_at s luma x y) (pos 0)))
    where
      go : (b : Bool) {w : ℕ} → w ≤ top_of s.depth → pick b v w ≤ top_of s.depth
      go true l = h
      go false l = l

module _ {s : Ccso} {luma flags : List ℕ} {offsets : List ℤ} {t : List ℕ} {r : Answer} {q : List ℕ} (st : Stated s luma flags offsets t r q) where
  -- a refusal leaves the target as lent
  pub refused_kept : {f : Refusal} → r ≡ Err f → q ≡ t
  unfolding ccso_after
  refused_kept e = st.target ∙ sym (settle_refused (ccso_check s luma flags offsets t) t _ (sym e ∙ st.answer))

  run_of : r ≡ Ok tt → q ≡ ccso_of s luma flags offsets t
  unfolding ccso_after
  run_of e = st.target ∙ sym (settle_accepted (ccso_check s luma flags offsets t) t _ _ (sym e ∙ st.answer) refl)

  -- what an accepted call and a refused one both leave
  by_answer : (P : List ℕ → Type 0) → P t → (r ≡ Ok tt → P (ccso_of s luma flags offsets t)) → P q
  by_answer P p f = go r refl
    where
      go : (a : Answer) → r ≡ a → P q
      go (Ok tt) e = rw (run_of e) (f e)
      go (Err g) e = rw (refused_kept e) p

  -- the target keeps its length, and everything past its size
  pub length_kept : length q ≡ length t
  length_kept = by_answer (λ l. length l ≡ length t) refl (λ e. target_length s luma flags offsets t)

  pub past_kept : (i : ℕ) → target_height s * target_width s ≤ i → get_or q i 0 ≡ get_or t i 0
  past_kept i h = by_answer (λ l. get_or l i 0 ≡ get_or t i 0) refl (λ e. target_past s luma flags offsets i t h)

  -- a sample of the target
  module _ (x y : ℕ) (h : x < target_width s) (l : y < target_height s) where
    -- each sample after an accepted call is the rules' of the lent planes
    pub each_sample : r ≡ Ok tt → get_or q (y * target_width s + x) 0 ≡ sample_at s luma flags offsets x y (get_or t (y * target_width s + x) 0)
    each_sample e =
        ap (λ (q : List ℕ). get_or q (y * target_width s + x) 0) (run_of e)
        ∙ target_at s luma flags offsets x y t h l
        (omega (arith, cell_below y (target_height s) x (target_width s) l h, (accepted s luma flags offsets t (sym st.answer ∙ e)).1.target))

    -- a block with flag 0 is kept
    pub flag_kept : get_or flags (block_of s x y) 0 ≡ 0 → get_or q (y * target_width s + x) 0 ≡ get_or t (y * target_width s + x) 0
    flag_kept f = go r refl
      where
        go : (a : Answer) → r ≡ a → get_or q (y * target_width s + x) 0 ≡ get_or t (y * target_width s + x) 0
        go (Ok tt) e = each_sample e ∙ sample_off s luma flags offsets x y _ f
        go (Err g) e = ap (λ (l : List ℕ). get_or l (y * target_width s + x) 0) (refused_kept e)

    -- accepted samples stay in 0..top
    pub samples_stay : r ≡ Ok tt → get_or q (y * target_width s + x) 0 ≤ top_of s.depth
    samples_stay e =
        rw (each_sample e)
        (sample_low s luma flags offsets x y _
        (target_low s luma flags offsets t (sym st.answer ∙ e) (y * target_width s + x) (cell_below y (target_height s) x (target_width s) l h)))
