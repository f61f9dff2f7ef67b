-- How the first place at which a test holds is found one place at a time. Assumes nothing.
use mathlib.Core.Path.{◌≡◌, refl, sym, ◌∙◌}
use mathlib.Core.Bool.{Bool, true, false, not}
use mathlib.Core.List.{List}
use Prim.Native.Nat.{ℕ, zero, suc, ◌+◌, ◌-◌, ◌≤◌, ◌<◌}
use native.Mathlib.Omega.{arith}
use native.Mathlib.Numerals.{add-one}
use lib.ListN.{get_or, length, take, drop}
use Rattle.std.proofs.Common.{None, Some, Option, position}
use Rattle.std.specs.List.{position_or_len}
use Rattle.std.proofs.lemmas.Grind.{common_steps}
use Rattle.std.proofs.lemmas.List.{drop_more}
use Rattle.std.proofs.lemmas.List.Sums.{prefix_len-le-length}
use Rattle.laws.specs.Choose.{pick}
use Rattle.text.specs.Places.{seek}

-- whole is what is found from the first place on
module _ (q : ℕ → Bool) (at end whole : ℕ) where
  -- the test fails here
  pub seek_on : at < end → false ≡ q at → seek q at (end - at) ≡ whole → seek q (at + 1) (end - (at + 1)) ≡ whole
  unfolding seek pick
  seek_on h e inv =
      let n : end - at ≡ suc (end - (at + 1)) = omega arith in
      let g : seek q at (end - at) ≡ seek q (at + 1) (end - (at + 1)) = rw (n, ← e, add-one) in
      sym g ∙ inv

  -- it holds here
  pub seek_here : at < end → true ≡ q at → seek q at (end - at) ≡ whole → at ≡ whole
  unfolding seek pick
  seek_here h e inv =
      let n : end - at ≡ suc (end - (at + 1)) = omega arith in
      let g : seek q at (end - at) ≡ at = rw (n, ← e) in
      sym g ∙ inv

  -- no place is left
  pub seek_end : end ≤ at → seek q at (end - at) ≡ whole → at ≡ whole
  unfolding seek
  seek_end h inv =
      let n : end - at ≡ 0 = omega arith in
      let g : seek q at (end - at) ≡ at = rw n in
      sym g ∙ inv

-- ---- as the library finds the place: among the n bytes from a place on

module _ (q : ℕ → Bool) (xs : List ℕ) where
  seek_cut : (at n : ℕ) → at < length xs → (seek (λ k. q (get_or xs k 0)) (at + 1) n ≡ at + 1 + position_or_len q (take n (drop (at + 1) xs))) → (b : Bool) → q (get_or xs at 0) ≡ b → seek (λ k. q (get_or xs k 0)) at (suc n) ≡ at + position_or_len q (take (suc n) (drop at xs))
  unfolding seek pick
  seek_cut at n h f true e = let d = drop_more xs at 0 h in rw (d, e) (omega arith)
  seek_cut at n h f false e = let d = drop_more xs at 0 h in rw (d, e, ← add-one at, f) (omega arith)

  pub seek_len : (at n : ℕ) → at + n ≤ length xs → seek (λ k. q (get_or xs k 0)) at n ≡ at + position_or_len q (take n (drop at xs))
  unfolding seek
  seek_len at zero h = omega arith
  seek_len at (suc n) h = seek_cut at n (omega arith) (seek_len (at + 1) n (omega arith)) (q (get_or xs at 0)) refl

  module _ (from end : ℕ) (o : Option ℕ) (p : o ≡ position q (take (end - from) (drop from xs))) (h : (from ≤ end) × (end ≤ length xs)) where
    pub seek_found : (k : ℕ) → o ≡ Some k → from + k ≡ seek (λ j. q (get_or xs j 0)) from (end - from)
    seek_found k e = let f = seek_len from (end - from) (omega (arith, h)) in grind (arith, common_steps, f, e, p)

    pub seek_none : o ≡ None → end ≡ seek (λ j. q (get_or xs j 0)) from (end - from)
    seek_none e =
        let f = seek_len from (end - from) (omega (arith, h)) in
        let m = prefix_len-le-length (λ x. not (q x)) (take (end - from) (drop from xs)) in
        grind (arith, common_steps, f, e, p, m, h)
