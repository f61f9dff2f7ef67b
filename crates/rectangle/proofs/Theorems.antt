-- What the entry promises of each cell, and that two results which its promise allows are equal.
-- Assumes nothing.
use mathlib.Core.Path.{◌≡◌, refl, sym, ◌∙◌}
use mathlib.Core.Logic.{◌⊎◌, ⊎_elim}
use mathlib.Core.Bool.{Bool, true, false}
use mathlib.Core.List.{List}
use Prim.Native.Nat.{ℕ, ◌+◌, ◌*◌, ◌/◌, ◌%◌, ◌≤◌, ◌<◌}
use native.Mathlib.Decide.{dec_le}
use native.Mathlib.Omega.{arith}
use lib.ListN.{length, get_or}
use lib.Seq.{ext_get_or}
use Rattle.laws.specs.Choose.{pick}
use Rattle.laws.specs.Loops.{filled_length, filled_at, filled_beyond}
use Rattle.rules.specs.declared.settings.Keep.{Keep}
use Rattle.rules.specs.Refusals.{Answer}
use Rattle.std.specs.declared.result.Result.TheVariants.{Ok, Err}
use Rattle.rules.specs.declared.refusals.Refusal.{Refusal}
use Rattle.rules.specs.declared.refusals.Refusal.TheVariants.{Cell}
use Rattle.std.specs.declared.option.Option.TheVariants.{None}
use Rattle.rules.specs.Refusals.{settle, over_top}
use Rattle.rules.specs.Plane.{bad_keep}
use Rattle.rules.specs.Keep.{in_rectangle, kept_at, kept_of, keep_check, keep_after}
use Rattle.checks.proofs.First.{nothing_all, all_nothing, over_good, over_nothing}
use Rattle.checks.proofs.Checks.{else_parts, found_nothing}
use Rattle.tiles.proofs.Places.{place_below}
use Rattle.rectangle.specs.Cut.{RectangleFits, Inside}
use Rattle.rectangle.specs.Stated.{Stated}
use Rattle.rectangle.proofs.Rows.{inside_true, true_inside, quotient, remainder}
use Rattle.rectangle.proofs.Checked.{keep_accepted}

pub one_result : {s : Keep} {k m n : List ℕ} {a b : Answer} → Stated s k a m → Stated s k b n → (a ≡ b) × (m ≡ n)
one_result p q = (p.answer ∙ sym q.answer, p.marks ∙ sym q.marks)

-- a refusal leaves the marks as lent
pub refused_as_lent : {s : Keep} {k n : List ℕ} {r : Refusal} → Stated s k (Err r) n → n ≡ k
unfolding keep_after settle
refused_as_lent {s} {k} p = p.marks ∙ rw (← p.answer)

-- an accepted call
module _ {s : Keep} {k n : List ℕ} (p : Stated s k (Ok tt) n) where
  done : n ≡ kept_of s k
  unfolding keep_after settle
  done = p.marks ∙ rw (← p.answer)

  fit : RectangleFits s (length k)
  fit = keep_accepted s k (sym p.answer)

  -- the marks are as many as before
  pub as_long : length n ≡ length k
  unfolding kept_of
  as_long = rw done (filled_length k (kept_at s k) (s.rows * s.cols))

  -- an entry past the plane's cells is as it was
  pub beyond_as_before : (i : ℕ) → s.rows * s.cols ≤ i → get_or n i 0 ≡ get_or k i 0
  unfolding kept_of
  beyond_as_before i h = rw done (filled_beyond k (kept_at s k) 0 (s.rows * s.cols) i h)

  entry_is : (i : ℕ) → i < s.rows * s.cols → get_or n i 0 ≡ kept_at s k i
  unfolding kept_of
  entry_is i h = rw done (filled_at k (kept_at s k) 0 (s.rows * s.cols) i h (let l = fit.long in omega arith))

  module _ (r c : ℕ) (hr : r < s.rows) (hc : c < s.cols) where
    cell_is : get_or n (r * s.cols + c) 0 ≡ pick (in_rectangle s r c) 1 (get_or k (r * s.cols + c) 0)
    unfolding kept_at
    cell_is = rw (quotient r c s.cols hc, remainder r c s.cols hc) at (entry_is (r * s.cols + c) (place_below r s.rows c s.cols hr hc))

    -- a cell of the plane inside of the rectangle is kept
    pub inside_kept : Inside s r c → get_or n (r * s.cols + c) 0 ≡ 1
    unfolding pick
    inside_kept q = rw (inside_true q) at cell_is

    -- and every other is as before
    pub outside_as_before : (Inside s r c → ⊥) → get_or n (r * s.cols + c) 0 ≡ get_or k (r * s.cols + c) 0
    unfolding pick
    outside_as_before off = go (in_rectangle s r c) refl cell_is
      where
        go : (b : Bool) → in_rectangle s r c ≡ b → get_or n (r * s.cols + c) 0 ≡ pick b 1 (get_or k (r * s.cols + c) 0) → get_or n (r * s.cols + c) 0 ≡ get_or k (r * s.cols + c) 0
        go true e f = absurd (off (true_inside s r c e))
        go false e f = f

  -- "an empty rectangle setting none"
  pub empty_none : (s.h ≡ 0) ⊎ (s.w ≡ 0) → n ≡ k
  unfolding kept_at pick
  empty_none e = ext_get_or 0 n k as_long (λ i _. elim (dec_le (s.rows * s.cols) i) [
    | yes h ↦ beyond_as_before i h
    | no h ↦ entry_is i (omega arith) ∙ as_it_was (in_rectangle s (i / s.cols) (i % s.cols)) i refl
  ])
    where
      none : (r c : ℕ) → Inside s r c → ⊥
      none r c q = ⊎_elim (λ z. let a = q.above in let b = q.below in omega arith) (λ z. let a = q.left in let b = q.right in omega arith) e

      as_it_was : (b : Bool) (i : ℕ) → in_rectangle s (i / s.cols) (i % s.cols) ≡ b → kept_at s k i ≡ get_or k i 0
      as_it_was true i f = absurd (none _ _ (true_inside s _ _ f))
      as_it_was false i f = rw f

  -- the marks are 0 or 1 as before, so that a plane or another rectangle takes them
  pub still_good : bad_keep (s.rows * s.cols) n ≡ None
  unfolding bad_keep keep_check kept_at pick
  still_good = all_nothing _ (s.rows * s.cols) (λ i h. sym (over_good 1 n i (low i h)))
    where
      was : bad_keep (s.rows * s.cols) k ≡ None
      was = found_nothing _ Cell (else_parts _ _ (else_parts _ _ (sym p.answer)).1).1

      most : (b : Bool) (x : ℕ) → x ≤ 1 → pick b 1 x ≤ 1
      most true x h = omega arith
      most false x h = h

      low : (i : ℕ) → i < s.rows * s.cols → get_or n i 0 ≤ 1
      low i h = rw (entry_is i h) (most (in_rectangle s (i / s.cols) (i % s.cols)) (get_or k i 0) (over_nothing 1 k i (nothing_all (λ j. over_top 1 k j) (s.rows * s.cols) was i h)))
