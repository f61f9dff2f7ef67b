-- The checks in their order: the answer at each way out, and what an accepted input promises the run.
-- Assumes nothing.
use mathlib.Core.Path.{◌≡◌, sym, ◌∙◌}
use mathlib.Core.Bool.{Bool, true, false, not}
use mathlib.Core.List.{List}
use Prim.Native.Nat.{ℕ, ◌+◌, ◌*◌, ◌≤◌, ◌<◌}
use native.Mathlib.Nat.{zero-add}
use native.Mathlib.Omega.{arith}
use borrow.Author.Rules.{rules}
use borrow.Author.Tests.{leb-true, le-leb}
use lib.Dec.{leb}
use lib.ListN.{get_or, length}
use lib.IntN.{ℤ, pos, neg_ℤ}
use Rattle.laws.specs.Choose.{pick, all_parts, both_parts, told_yes_not, told_no_not}
use Rattle.rules.specs.declared.settings.Ccso.{Ccso}
use Rattle.rules.specs.declared.refusals.Refusal.{Refusal}
use Rattle.rules.specs.declared.refusals.Refusal.TheVariants.{Depth, Size, Length, Setting, Sample}
use Rattle.rules.specs.Refusals.{Answer}
use Rattle.std.specs.declared.result.Result.TheVariants.{Ok, Err}
use Rattle.std.specs.Option.{is_some}
use Rattle.std.specs.declared.option.Option.{Option}
use Rattle.std.specs.declared.option.Option.TheVariants.{Some, None}
use Rattle.rules.specs.Numbers.{depth_ok, top_of, in_range, in_range_z}
use Rattle.rules.proofs.Depths.{by_depth}
use Rattle.rules.specs.Frame.{superblocks}
use Rattle.rules.specs.Refusals.{first, found, found_unless, over_top, over_row}
use Rattle.rules.specs.Ccso.{target_width, target_height, ccso_sizes_ok, ccso_lengths_ok, ccso_settings_ok, band_ok, offset_count, offset_ok, bad_offset, ccso_check, ccso_of, ccso_after}
use Rattle.checks.proofs.First.{nothing_all, over_nothing, unless_nothing}
use Rattle.checks.proofs.Checks.{stop, go_on, unless_bad, unless_good, else_parts, unless_true, found_nothing, settle_refused, settle_accepted}
use Rattle.ccso_sample.specs.Ranges.{SignedWithin, Ranges}
use Rattle.ccso.specs.Lists.{CcsoFits}
use Rattle.ccso.specs.Stated.{Stated}
use Rattle.ccso.specs.Checks.{cuts_ok, classes_ok, taps_ok, samples_check}
use Rattle.checks.proofs.Ranges.{range_parts}
use Rattle.ccso.proofs.Ranged.{three_parts}
use Rattle.ccso.proofs.Lengths.{sizable}

-- ---- each way out of the checks

-- by whether a search found one, wherever
some_bad : (f g : Option ℕ) → f ≡ g → true ≡ is_some f → Err Setting ≡ found g (λ k. Setting)
unfolding found
some_bad (Some k) g e h = rw (← e)
some_bad None g e h = absurd (let z : ◌≡◌ {A = ℕ} 0 1 = cc in omega arith)

none_good : (f g : Option ℕ) → f ≡ g → false ≡ is_some f → Ok tt ≡ found g (λ k. Setting)
unfolding found
none_good (Some k) g e h = absurd (let z : ◌≡◌ {A = ℕ} 0 1 = cc in omega arith)
none_good None g e h = rw (← e)

module _ (s : Ccso) (luma flags : List ℕ) (offsets : List ℤ) (t : List ℕ) where
  pub answer_depth : false ≡ depth_ok s.depth → Err Depth ≡ ccso_check s luma flags offsets t
  unfolding ccso_check
  answer_depth e = stop _ _ (unless_bad _ _ e)

  module _ (d : true ≡ depth_ok s.depth) where
    pub answer_size : false ≡ ccso_sizes_ok s → Err Size ≡ ccso_check s luma flags offsets t
    unfolding ccso_check
    answer_size e = go_on _ _ _ (unless_good _ _ d) (stop _ _ (unless_bad _ _ e))

    module _ (z : true ≡ ccso_sizes_ok s) where
      pub answer_length : false ≡ ccso_lengths_ok s (length luma) (length t) (length flags) (length offsets) → Err Length ≡ ccso_check s luma flags offsets t
      unfolding ccso_check
      answer_length e = go_on _ _ _ (unless_good _ _ d) (go_on _ _ _ (unless_good _ _ z) (stop _ _ (unless_bad _ _ e)))

      module _ (l : true ≡ ccso_lengths_ok s (length luma) (length t) (length flags) (length offsets)) where
        pub answer_setting : false ≡ ccso_settings_ok s → Err Setting ≡ ccso_check s luma flags offsets t
        unfolding ccso_check
        answer_setting e =
            go_on _ _ _ (unless_good _ _ d) (go_on _ _ _ (unless_good _ _ z) (go_on _ _ _ (unless_good _ _ l) (stop _ _ (unless_bad _ _ e))))

        module _ (o : true ≡ ccso_settings_ok s) (n : ℕ) (c : n ≡ offset_count s) (f : Option ℕ) (b : f ≡ first n (λ k. found_unless (offset_ok offsets k) k)) where
          offset_first : f ≡ bad_offset s offsets
          unfolding bad_offset
          offset_first = rw c at b

          pub answer_offset : true ≡ is_some f → Err Setting ≡ ccso_check s luma flags offsets t
          unfolding ccso_check
          answer_offset h =
              go_on _ _ _ (unless_good _ _ d)
              (go_on _ _ _ (unless_good _ _ z)
              (go_on _ _ _ (unless_good _ _ l)
              (go_on _ _ _ (unless_good _ _ o) (stop _ _ (some_bad f _ offset_first h)))))

          pub answer_samples : (a : Answer) → false ≡ is_some f → a ≡ samples_check s luma t → a ≡ ccso_check s luma flags offsets t
          unfolding ccso_check samples_check
          answer_samples a h e =
              go_on _ _ _ (unless_good _ _ d)
              (go_on _ _ _ (unless_good _ _ z)
              (go_on _ _ _ (unless_good _ _ l)
              (go_on _ _ _ (unless_good _ _ o) (go_on _ _ _ (none_good f _ offset_first h) e))))

-- ---- what the tests give

pub band_most : (s : Ccso) → ccso_settings_ok s ≡ true → s.bandlog ≤ 3
unfolding taps_ok band_ok
band_most s e =
    let p = (both_parts _ _ (both_parts _ _ (sym (three_parts s) ∙ e)).1).1 in
    let q = (all_parts _ _ (all_parts _ _ (all_parts _ _ (all_parts _ _ p).1).1).1).1 in
    leb-true s.bandlog 3 (all_parts _ _ q).0

band_ok_holds : (s : Ccso) → s.bandlog ≤ 3 → band_ok s ≡ true
unfolding band_ok
band_ok_holds s h = le-leb _ _ h

picked : (b x : Bool) → b ≡ true → pick b x true ≡ true → x ≡ true
unfolding pick
picked b x e f = rw e at f

pub record CcsoLong (s : Ccso) (luma target flags offsets : ℕ) : Type 0 where
  pub luma_long : s.height * s.width ≤ luma
  pub target_long : target_height s * target_width s ≤ target
  pub flags_long : superblocks s.height * superblocks s.width ≤ flags
  pub offsets_long : s.bandlog ≤ 3 → offset_count s ≤ offsets

pub long : (s : Ccso) (luma target flags offsets : ℕ) → ccso_lengths_ok s luma target flags offsets ≡ true → CcsoLong s luma target flags offsets
unfolding ccso_lengths_ok
long s luma target flags offsets e =
    let p = all_parts _ _ e in
    let q = all_parts _ _ p.1 in
    let r = all_parts _ _ q.1 in
    let u = all_parts _ _ r.1 in
    record {
      luma_long = leb-true _ _ p.0;
      target_long = leb-true _ _ q.0;
      flags_long = leb-true _ _ r.0;
      offsets_long = λ h. counted h u.0;
    }
  where
    counted : s.bandlog ≤ 3 → pick (band_ok s) (leb (offset_count s) offsets) true ≡ true → offset_count s ≤ offsets
    counted h f = leb-true _ _ (picked _ _ (band_ok_holds s h) f)

-- the same by a callee's answer u that was not refused
pub passed_yes : (t u : Bool) → u ≡ t → not u ≡ false → t ≡ true
passed_yes t u e f = sym (told_yes_not t u e f)

module _ (s : Ccso) (luma target flags offsets : ℕ) (e : ccso_lengths_ok s luma target flags offsets ≡ true) where
  pub luma_there : s.height * s.width ≤ luma
  luma_there = (long s luma target flags offsets e).luma_long

  pub target_there : target_height s * target_width s ≤ target
  target_there = (long s luma target flags offsets e).target_long

  pub offsets_there : (n : ℕ) → ccso_settings_ok s ≡ true → n ≡ offset_count s → n ≤ offsets
  offsets_there n f g = rw g ((long s luma target flags offsets e).offsets_long (band_most s f))

-- ---- what an accepted input promises the run

depth_bounds : (d : ℕ) → depth_ok d ≡ true → (8 ≤ d) × (d ≤ 12)
depth_bounds d ok = by_depth (λ n. (8 ≤ n) × (n ≤ 12)) (omega arith, omega arith) (omega arith, omega arith) (omega arith, omega arith) d ok

within_of : (z : ℤ) (most : ℕ) → in_range_z (neg_ℤ (pos most)) (pos most) z ≡ true → SignedWithin z most
within_of z most e = let p = range_parts z most most e in record { high = p.1; low = p.0 }

pub ranges : (s : Ccso) → depth_ok s.depth ≡ true → ccso_sizes_ok s ≡ true → ccso_settings_ok s ≡ true → Ranges s
unfolding cuts_ok classes_ok taps_ok in_range
ranges s d z e =
    let size = sizable s z in
    let bits = depth_bounds _ d in
    let three = both_parts _ _ (sym (three_parts s) ∙ e) in
    let c1 = all_parts _ _ three.0 in
    let c2 = all_parts _ _ c1.1 in
    let c3 = all_parts _ _ c2.1 in
    let two = both_parts _ _ three.1 in
    let k1 = all_parts _ _ two.0 in
    let k2 = all_parts _ _ k1.1 in
    let k3 = all_parts _ _ k2.1 in
    let t1 = all_parts _ _ two.1 in
    let t2 = all_parts _ _ t1.1 in
    let t3 = all_parts _ _ t2.1 in
    let t4 = all_parts _ _ t3.1 in
    record {
      some_width = size.some_width;
      width_most = size.width_most;
      some_height = size.some_height;
      height_most = size.height_most;
      ssx_most = size.ssx_most;
      ssy_most = size.ssy_most;
      depth = d;
      depth_least = bits.0;
      depth_most = bits.1;
      scale_most = leb-true _ _ (both_parts _ _ c1.0).1;
      band_most = band_most s e;
      below_most = leb-true _ _ k1.0;
      within_most = leb-true _ _ k2.0;
      above_most = leb-true _ _ k3.0;
      lo = within_of _ _ c2.0;
      hi = within_of _ _ c3.0;
      dx0 = within_of _ _ t1.0;
      dy0 = within_of _ _ t2.0;
      dx1 = within_of _ _ t3.0;
      dy1 = within_of _ _ t4.0;
    }

-- no sample found over top, and no bad offset
clean : (top : ℕ) (xs : List ℕ) (n : ℕ) → over_row top xs 0 n ≡ None → (i : ℕ) → i < n → get_or xs i 0 ≤ top
unfolding over_row
clean top xs n e i h = rw (zero-add i) at (over_nothing top xs (0 + i) (nothing_all (λ x. over_top top xs (0 + x)) n e i h))

small_offset : (s : Ccso) (offsets : List ℤ) → bad_offset s offsets ≡ None → (k : ℕ) → k < offset_count s → SignedWithin (get_or offsets k (pos 0)) 10
unfolding bad_offset offset_ok
small_offset s offsets e k h =
    let p = range_parts (get_or offsets k (pos 0)) 10 7 (unless_nothing _ k (nothing_all _ (offset_count s) e k h)) in
    record { high = omega (arith, p.1); low = p.0 }

module _ (s : Ccso) (luma flags : List ℕ) (offsets : List ℤ) (t : List ℕ) (e : ccso_check s luma flags offsets t ≡ Ok tt) where
  pub accepted : Ranges s × CcsoFits s luma offsets (length t) (length flags)
  unfolding ccso_check
  accepted =
      let p1 = else_parts _ _ e in
      let p2 = else_parts _ _ p1.1 in
      let p3 = else_parts _ _ p2.1 in
      let p4 = else_parts _ _ p3.1 in
      let p5 = else_parts _ _ p4.1 in
      let p6 = else_parts _ _ p5.1 in
      let sets = unless_true _ Setting p4.0 in
      let l = long s _ _ _ _ (unless_true _ Length p3.0) in (
        ranges s (unless_true _ Depth p1.0) (unless_true _ Size p2.0) sets,
        record {
          lit = record { long = l.luma_long; top = clean _ _ _ (found_nothing _ Sample p6.0) };
          small = record { long = l.offsets_long (band_most s sets); each = small_offset s offsets (found_nothing _ (λ k. Setting) p5.0) };
          target = l.target_long;
          flags = l.flags_long;
        },
      )

  -- no sample of the target is over top
  pub target_low : (i : ℕ) → i < target_height s * target_width s → get_or t i 0 ≤ top_of s.depth
  unfolding ccso_check
  target_low =
      let p5 = else_parts _ _ (else_parts _ _ (else_parts _ _ (else_parts _ _ (else_parts _ _ e).1).1).1).1 in
      clean _ _ _ (found_nothing _ Sample (else_parts _ _ p5.1).1)

-- the entry's two ways out
module _ (s : Ccso) (luma flags : List ℕ) (offsets : List ℤ) (t : List ℕ) where
  pub stated_refused : {r : Refusal} → Err r ≡ ccso_check s luma flags offsets t → Stated s luma flags offsets t (Err r) t
  unfolding ccso_after
  stated_refused e = record { answer = e; target = settle_refused _ _ _ e }

  pub stated_run : (q : List ℕ) → Ok tt ≡ ccso_check s luma flags offsets t → q ≡ ccso_of s luma flags offsets t → Stated s luma flags offsets t (Ok tt) q
  unfolding ccso_after
  stated_run q e g = record { answer = e; target = settle_accepted _ _ _ _ e g }

-- any two results that the statement allows are equal
pub one_result : {s : Ccso} {luma flags : List ℕ} {offsets : List ℤ} {t : List ℕ} {r r' : Answer} {q q' : List ℕ} → Stated s luma flags offsets t r q → Stated s luma flags offsets t r' q' → (r ≡ r') × (q ≡ q')
one_result a b = (a.answer ∙ sym b.answer, a.target ∙ sym b.target)

pub ruleset answers = (rules, told_yes_not, told_no_not, answer_depth, answer_size, answer_length, answer_setting, answer_offset, answer_samples)

pub ruleset admitted = (rules, passed_yes, band_most)
