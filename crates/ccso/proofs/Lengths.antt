-- The checks of lengths, offsets and samples: each way out of them, and what the sizes in range give.
-- Assumes nothing.
use mathlib.Core.Path.{◌≡◌, refl, sym, ap, ◌∙◌}
use mathlib.Core.Bool.{Bool, true, false, not}
use mathlib.Core.List.{List}
use Prim.Native.Nat.{ℕ, ◌*◌, ◌≤◌, ◌<◌}
use native.Mathlib.Omega.{arith}
use borrow.Author.Rules.{rules}
use borrow.Author.Tests.{leb-true, not-true, not-false}
use lib.Dec.{leb}
use lib.ListN.{get_or}
use lib.IntN.{ℤ, pos, neg_ℤ}
use mir.Syntax.{w8, w32, w64}
use mir.Val.{Fits, SFits, to_z, of_z}
use Rattle.laws.specs.Choose.{all_bad, all_ok, all_last, all_later, all_parts, both_parts, pick_yes, pick_no, is_le, not_le}
use Rattle.laws.specs.Machine.{widened, wide_same}
use Rattle.rules.specs.declared.settings.Ccso.{Ccso}
use Rattle.std.specs.declared.option.Option.TheVariants.{Some, None}
use Rattle.rules.specs.Numbers.{in_range, in_range_z, subsampling_ok, top_of}
use Rattle.rules.specs.Frame.{halved, superblocks}
use Rattle.rules.specs.declared.refusals.Refusal.{Refusal}
use Rattle.rules.specs.declared.refusals.Refusal.TheVariants.{Sample}
use Rattle.std.specs.declared.result.Result.TheVariants.{Ok, Err}
use Rattle.rules.specs.Refusals.{Answer, found, found_unless, over_row}
use Rattle.rules.specs.Ccso.{target_width, target_height, ccso_sizes_ok, ccso_lengths_ok, band_ok, offset_count, offset_ok}
use Rattle.checks.proofs.First.{firsts, found_unless_holds, found_unless_not}
use Rattle.checks.proofs.Checks.{stop, go_on}
use Rattle.ccso.specs.Checks.{samples_check}
use Rattle.rounding.proofs.Within.{samples_fit, superblocks_fit}

-- ---- sizes in range

pub record Sizable (s : Ccso) : Type 0 where
  pub some_width : 1 ≤ s.width
  pub width_most : s.width ≤ 4096
  pub some_height : 1 ≤ s.height
  pub height_most : s.height ≤ 4096
  pub ssx_most : s.ssx ≤ 1
  pub ssy_most : s.ssy ≤ 1

pub sizable : (s : Ccso) → ccso_sizes_ok s ≡ true → Sizable s
unfolding ccso_sizes_ok in_range subsampling_ok
sizable s e =
    let p = all_parts _ _ e in
    let q = all_parts _ _ p.1 in
    let r = all_parts _ _ q.1 in
    let w = both_parts _ _ p.0 in
    let h = both_parts _ _ q.0 in
    let t = both_parts _ _ r.0 in
    record {
      some_width = leb-true _ _ w.0;
      width_most = leb-true _ _ w.1;
      some_height = leb-true _ _ h.0;
      height_most = leb-true _ _ h.1;
      ssx_most = leb-true _ _ t.0;
      ssy_most = omega (arith, leb-true s.ssx 1 t.0, leb-true s.ssy s.ssx t.1);
    }

-- what `superblocks` asks, each way
pub wide_ok : (s : Ccso) → ccso_sizes_ok s ≡ true → s.width ≤ 4096
wide_ok s e = (sizable s e).width_most

pub high_ok : (s : Ccso) → ccso_sizes_ok s ≡ true → s.height ≤ 4096
high_ok s e = (sizable s e).height_most

-- what `halved` asks, each way
pub across_ok : (s : Ccso) → ccso_sizes_ok s ≡ true → (s.ssx ≤ 1) × (s.width ≤ 4096)
across_ok s e = ((sizable s e).ssx_most, wide_ok s e)

pub down_ok : (s : Ccso) → ccso_sizes_ok s ≡ true → (s.ssy ≤ 1) × (s.height ≤ 4096)
down_ok s e = ((sizable s e).ssy_most, high_ok s e)

pub area_fits : (s : Ccso) → ccso_sizes_ok s ≡ true → Fits w64 (s.height * s.width)
area_fits s e = samples_fit (high_ok s e) (wide_ok s e)

-- ---- lengths

module _ (s : Ccso) (luma target flags offsets : ℕ) where
  pub short_luma : luma < s.height * s.width → false ≡ ccso_lengths_ok s luma target flags offsets
  unfolding ccso_lengths_ok
  short_luma h = all_bad _ _ (not_le _ _ h)

  module _ (p q : ℕ) (g : p ≡ superblocks s.height) (k : q ≡ superblocks s.width) where
    pub short_flags : flags < p * q → false ≡ ccso_lengths_ok s luma target flags offsets
    unfolding ccso_lengths_ok
    short_flags h = all_later _ _ (all_later _ _ (all_bad _ _ (not_le _ _ (rw (g, k) at h))))

  module _ (a b : ℕ) (e : a ≡ halved s.ssy s.height) (f : b ≡ halved s.ssx s.width) where
    pub short_target : target < a * b → false ≡ ccso_lengths_ok s luma target flags offsets
    unfolding ccso_lengths_ok target_height target_width
    short_target h = all_later _ _ (all_bad _ _ (not_le _ _ (rw (e, f) at h)))

    module _ (p q : ℕ) (g : p ≡ superblocks s.height) (k : q ≡ superblocks s.width) (h : s.height * s.width ≤ luma) (t : a * b ≤ target) (l : p * q ≤ flags) where
      pub no_band : 3 < s.bandlog → true ≡ ccso_lengths_ok s luma target flags offsets
      unfolding ccso_lengths_ok target_height target_width band_ok
      no_band n =
          all_ok _ _ _ (is_le _ _ h)
          (all_ok _ _ _ (is_le _ _ (rw (e, f) at t))
          (all_ok _ _ _ (is_le _ _ (rw (g, k) at l)) (all_last _ _ (pick_no _ _ _ _ (not_le _ _ n) refl))))

      pub counted : s.bandlog ≤ 3 → (n : ℕ) → n ≡ offset_count s → leb n offsets ≡ ccso_lengths_ok s luma target flags offsets
      unfolding ccso_lengths_ok target_height target_width band_ok
      counted b n o =
          all_ok _ _ _ (is_le _ _ h)
          (all_ok _ _ _ (is_le _ _ (rw (e, f) at t))
          (all_ok _ _ _ (is_le _ _ (rw (g, k) at l)) (all_last _ _ (pick_yes _ _ _ _ (is_le _ _ b) (ap (λ (i : ℕ). leb i offsets) o)))))

-- ---- offsets

module _ (offsets : List ℤ) (k : ℕ) (fit : SFits w8 (get_or offsets k (pos 0))) where
  pub offset_word : SFits w32 (to_z w8 (of_z w8 (get_or offsets k (pos 0))))
  offset_word = widened w8 w32 tt fit

  module _ (u : Bool) (e : u ≡ in_range_z (neg_ℤ (pos 10)) (pos 7) (to_z w32 (of_z w32 (to_z w8 (of_z w8 (get_or offsets k (pos 0))))))) where
    told : u ≡ offset_ok offsets k
    unfolding offset_ok
    told = rw (wide_same w8 w32 tt fit) at e

    pub offset_bad : not u ≡ true → Some k ≡ found_unless (offset_ok offsets k) k
    offset_bad f = found_unless_holds _ k (sym (not-true u f) ∙ told)

    pub offset_good : not u ≡ false → None ≡ found_unless (offset_ok offsets k) k
    offset_good f = found_unless_not _ k (sym (not-false u f) ∙ told)

pub ruleset offsets_first = (firsts, offset_word, offset_bad, offset_good)

-- ---- samples

module _ (s : Ccso) (luma t : List ℕ) (top : ℕ) (e : top ≡ top_of s.depth) where
  pub luma_over : {r : Refusal} → Err r ≡ found (over_row top luma 0 (s.height * s.width)) Sample → Err r ≡ samples_check s luma t
  unfolding samples_check
  luma_over l = stop _ _ (rw e at l)

  pub luma_low : (a b : ℕ) (x : Answer) → Ok tt ≡ found (over_row top luma 0 (s.height * s.width)) Sample → a ≡ halved s.ssy s.height → b ≡ halved s.ssx s.width → x ≡ found (over_row top t 0 (a * b)) Sample → x ≡ samples_check s luma t
  unfolding samples_check target_height target_width
  luma_low a b x l high wide m = go_on _ _ _ (rw e at l) (rw (e, high, wide) at m)

pub target_long : (s : Ccso) (a b n : ℕ) → a ≡ halved s.ssy s.height → b ≡ halved s.ssx s.width → target_height s * target_width s ≤ n → a * b ≤ n
unfolding target_height target_width
target_long s a b n e f h = rw (e, f) h

pub ruleset samples = (rules, sizable, across_ok, down_ok, area_fits, samples_fit, target_long)

pub ruleset lengths = (rules, sizable, wide_ok, high_ok, across_ok, down_ok, area_fits, samples_fit, superblocks_fit, short_luma, short_flags, short_target, no_band, counted)
