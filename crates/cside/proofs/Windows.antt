-- One segment as C is answered it: from the lone segment's answer and plane on the samples that the bytes hold.
-- Assumes nothing.
use mathlib.Core.Path.{◌≡◌, refl, sym, ap, ap₂, ◌∙◌}
use mathlib.Core.Bool.{Bool, true, false, not}
use mathlib.Core.List.{List}
use Prim.Native.Nat.{ℕ, ◌≤◌, ◌<◌}
use native.Mathlib.Omega.{arith}
use borrow.Author.Rules.{rules}
use borrow.Author.Tests.{eq-eqb, ne_eqb}
use lib.ListN.{length}
use lib.IntN.{ℤ, pos, neg_ℤ}
use mir.Syntax.{w32}
use mir.Val.{to_z, of_z}
use Rattle.laws.specs.Choose.{told_yes_not, told_no_not}
use Rattle.rules.specs.declared.settings.Lone.{Lone}
use Rattle.rules.specs.declared.refusals.Refusal.{Refusal}
use Rattle.rules.specs.declared.refusals.Refusal.TheVariants.{Depth, Length}
use Rattle.rules.specs.Refusals.{Answer}
use Rattle.std.specs.declared.result.Result.TheVariants.{Ok, Err}
use Rattle.std.specs.declared.result.Result.{Result}
use Rattle.rules.specs.declared.refusals.Filtered.{Filtered}
use Rattle.rules.specs.Numbers.{depth_ok}
use Rattle.rules.specs.Refusals.{number_of, or_else, unless}
use Rattle.rules.specs.Segment.{edge_place, window_of, chosen_of, width_at}
use Rattle.rules.specs.Lone.{edge_of, lone_check, answer_width, lone_width}
use Rattle.rules.specs.CSide.{samples_in, bytes_of, window_edge, c_segment_check, c_segment, c_window}
use Rattle.lengths.proofs.Lengths.{pair_facts}
use Rattle.width.proofs.Most.{pair_most}
use Rattle.checks.proofs.Checks.{stop, go_on, unless_bad, unless_good, settle_refused, settle_accepted}
use Rattle.lone.specs.Stated.{width_in, stored_in, changed_in, Stated}
use Rattle.lone.proofs.Accepted.{passed}
use Rattle.answers.specs.Told.{tallied}
use Rattle.answers.proofs.Numbers.{held, held_minus, answer_refused, answer_accepted, tallied_last}
use Rattle.cside.specs.Segment.{c_stored, c_changed, SegmentTold}

-- what an answer of either kind says of the check behind it
from_samples : (a : Answer) (w : ℕ) {n : ℕ} → Ok n ≡ answer_width a w → (Ok tt ≡ a) × (n ≡ w)
unfolding answer_width
from_samples (Ok tt) w e = (refl, cc)
from_samples (Err r) w e = absurd (let z : ◌≡◌ {A = ℕ} 0 1 = cc in omega arith)

from_refused : (a : Answer) (w : ℕ) {r : Refusal} → Err r ≡ answer_width a w → Err r ≡ a
unfolding answer_width
from_refused (Ok tt) w e = absurd (let z : ◌≡◌ {A = ℕ} 0 1 = cc in omega arith)
from_refused (Err r) w e = cc

-- the width of an edge whose pair is good
width_most : (depth pair q side : ℕ) (l : List ℕ) → pair < 8 → width_at 18 (edge_of (window_edge depth pair q side)) l ≤ 8
unfolding width_at chosen_of edge_place edge_of
width_most depth pair q side l h =
    let e = edge_of (window_edge depth pair q side) in
    omega (arith, pair_most (window_of (edge_place 18 e) l) pair q side h, (pair_facts pair h).after.most_8)

module _ (depth pair q side : ℕ) (bytes : List ℕ) where
  -- at a way out with a refusal, the counts as they were put first
  refused_told : {r : Refusal} {z : ℤ} {counts tally : List ℕ} → Err r ≡ c_segment_check depth pair q side bytes → z ≡ neg_ℤ (pos (number_of r)) → tally ≡ tallied 0 0 counts
      → SegmentTold depth pair q side bytes counts (to_z w32 (of_z w32 z)) bytes tally
  unfolding c_segment c_window c_stored c_changed
  refused_told {r} {z} {counts} a f t = record {
    answer = held_minus z r f ∙ answer_refused _ _ a;
    window_is = settle_refused _ _ _ a;
    counts_are = t ∙ ap₂ (λ (s c : ℕ). tallied s c counts) (settle_refused _ _ _ a) (settle_refused _ _ _ a);
  }

  module _ {u : Bool} (asked : u ≡ depth_ok depth) where
    pub bad_depth : {z : ℤ} {counts put : List ℕ} → not u ≡ true → z ≡ neg_ℤ (pos (number_of Depth)) → put ≡ tallied 0 0 counts → SegmentTold depth pair q side bytes counts (to_z w32 (of_z w32 z)) bytes put
    unfolding c_segment_check
    bad_depth bad f none = refused_told (stop _ _ (unless_bad _ _ (told_no_not _ _ asked bad))) f none

    module _ (yes : not u ≡ false) where
      deep : true ≡ depth_ok depth
      deep = told_yes_not _ _ asked yes

      pub bad_length : {z : ℤ} {counts put : List ℕ} → (length bytes ≡ 144 → ⊥) → z ≡ neg_ℤ (pos (number_of Length)) → put ≡ tallied 0 0 counts → SegmentTold depth pair q side bytes counts (to_z w32 (of_z w32 z)) bytes put
      unfolding c_segment_check
      bad_length n f none = refused_told (go_on _ _ _ (unless_good _ _ deep) (stop _ _ (unless_bad _ _ (sym (ne_eqb _ _ n))))) f none

      module _ (long : length bytes ≡ 144) where
        -- the C side's check is the lone segment's where depth and length are good
        check_is : (a : Answer) → a ≡ lone_check (window_edge depth pair q side) (samples_in bytes) → a ≡ c_segment_check depth pair q side bytes
        unfolding c_segment_check or_else unless
        check_is a e = rw (← deep, eq-eqb _ _ long) e

        module _ {l m : List ℕ} {a : Result Filtered Refusal} {s : Lone} (samples : l ≡ samples_in bytes) (edge : s ≡ window_edge depth pair q side) (stated : Stated s l a m) where
          here : Stated (window_edge depth pair q side) (samples_in bytes) a m
          here = rw (edge, samples) at stated

          parts : {f : Filtered} → a ≡ Ok f → (Ok tt ≡ lone_check (window_edge depth pair q side) (samples_in bytes)) × (f.width ≡ width_at 18 (edge_of (window_edge depth pair q side)) (samples_in bytes))
          unfolding lone_width
          parts e = from_samples _ _ (sym (ap width_in e) ∙ here.width)

          width_few : {f : Filtered} → a ≡ Ok f → f.width ≤ 8
          unfolding edge_of
          width_few e =
              let p = parts e in
              let h = (passed _ _ (sym p.0)).inside.pair_is in
              omega (arith, p.1, width_most depth pair q side (samples_in bytes) h)

          -- the width is a number that C's answer holds
          pub width_range : {f : Filtered} → a ≡ Ok f → f.width < 2147483648
          width_range e = omega (arith, width_few e)

          -- at the way out with a width: the number that the machine holds, the bytes of what the segment left, and its counts
          pub told_width : {w : Filtered} {z : ℤ} {after counts put tally : List ℕ} → a ≡ Ok w → z ≡ pos w.width → after ≡ bytes_of m → put ≡ tallied 0 0 counts → tally ≡ tallied w.stored w.changed put
              → SegmentTold depth pair q side bytes counts (to_z w32 (of_z w32 z)) after tally
          unfolding c_segment c_window c_stored c_changed
          told_width {w} {z} {after} {counts} e f g none t =
              let p = parts e in
              let ok = check_is (Ok tt) p.0 in
              record {
                answer = held z w.width f (width_range e) ∙ answer_accepted _ _ ok p.1;
                window_is = g ∙ settle_accepted _ _ _ (bytes_of m) ok (ap bytes_of here.plane);
                counts_are =
                    t ∙ ap (tallied w.stored w.changed) none ∙ tallied_last _ _ _ _ counts
                    ∙ ap₂ (λ (s c : ℕ). tallied s c counts) (settle_accepted _ _ _ _ ok (sym (ap stored_in e) ∙ here.stored)) (settle_accepted _ _ _ _ ok (sym (ap changed_in e) ∙ here.changed));
              }

          -- at the way out with a refusal
          pub told_refused : {r : Refusal} {z : ℤ} {counts put : List ℕ} → a ≡ Err r → z ≡ neg_ℤ (pos (number_of r)) → put ≡ tallied 0 0 counts → SegmentTold depth pair q side bytes counts (to_z w32 (of_z w32 z)) bytes put
          unfolding lone_width
          told_refused {r} e f none = refused_told (check_is (Err r) (from_refused _ _ (sym (ap width_in e) ∙ here.width))) f none

pub ruleset windows = (rules, bad_depth, bad_length, width_range, told_width, told_refused)
