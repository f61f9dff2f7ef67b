-- The settings' own lists: what each check says at each of its ways out, and that a list which passes has its numbers.
-- Assumes nothing.
use mathlib.Core.Path.{◌≡◌, sym, ap, ◌∙◌}
use mathlib.Core.Bool.{Bool, true, false, not}
use mathlib.Core.List.{List}
use Prim.Native.Nat.{ℕ, ◌≤◌, ◌<◌}
use borrow.Author.Tests.{leb-true}
use lib.Dec.{leb}
use lib.ListN.{length}
use lib.IntN.{ℤ}
use Rattle.laws.specs.Choose.{is_le, not_le, told_yes_not, told_no_not, both}
use Rattle.rules.specs.declared.refusals.Refusal.TheVariants.{Depth, Size, Length}
use Rattle.rules.specs.Refusals.{Answer}
use Rattle.std.specs.declared.result.Result.TheVariants.{Ok, Err}
use Rattle.rules.specs.Numbers.{depth_ok}
use Rattle.rules.specs.Refusals.{or_else, unless}
use Rattle.checks.proofs.Checks.{stop, go_on, unless_bad, unless_good, unless_true, else_parts}
use Rattle.answers.specs.Told.{listed}
use Rattle.numbers.specs.Settings.{count_at}
use Rattle.answers.proofs.Numbers.{short_is, long_is}
use Rattle.by_list.specs.Planes.{list_check}
use Rattle.by_list.specs.Frames.{flags_ok, list_check as frameCheck}
use Rattle.by_list.specs.Rectangles.{rectangle_ok, rectangle_check}

-- ---- a list of n numbers whose depth is number i, with flags that are asked for after it

module _ (n i : ℕ) (flags : Bool) (settings : List ℤ) where
  abbrev check : Answer
  check = listed n settings (or_else (unless (depth_ok (count_at settings i)) Depth) (unless flags Size))

  pub list_short : length settings < n → Err Length ≡ check
  list_short h = short_is n settings _ h

  module _ (enough : n ≤ length settings) {depth : ℕ} (read : depth ≡ count_at settings i) {u : Bool} (asked : u ≡ depth_ok depth) where
    depth_is : u ≡ depth_ok (count_at settings i)
    depth_is = asked ∙ ap depth_ok read

    pub list_depth : not u ≡ true → Err Depth ≡ check
    list_depth f = stop _ _ (unless_bad _ _ (told_no_not _ _ depth_is f)) ∙ long_is n settings _ enough

    module _ (yes : not u ≡ false) where
      pub list_flags : false ≡ flags → Err Size ≡ check
      list_flags f = go_on _ _ _ (unless_good _ _ (told_yes_not _ _ depth_is yes)) (unless_bad _ _ f) ∙ long_is n settings _ enough

      pub list_good : true ≡ flags → Ok tt ≡ check
      list_good f = go_on _ _ _ (unless_good _ _ (told_yes_not _ _ depth_is yes)) (unless_good _ _ f) ∙ long_is n settings _ enough

  -- a list that passes has its numbers
  list_long : {a : Answer} → a ≡ check → a ≡ Ok tt → n ≤ length settings
  unfolding listed
  list_long is e = leb-true n (length settings) (unless_true _ Length (else_parts _ _ (sym is ∙ e)).0)

-- a flag that is neither 0 nor 1, and one that is
pub one_more : (m : ℕ) {n : ℕ} → n ≡ m → 1 < n → false ≡ leb m 1
one_more m e h = not_le m 1 (rw e at h)

pub one_most : (m : ℕ) {n : ℕ} → n ≡ m → n ≤ 1 → true ≡ leb m 1
one_most m e h = is_le m 1 (rw e at h)

pub plane_long : (settings : List ℤ) {a : Answer} → a ≡ list_check settings → a ≡ Ok tt → 11 ≤ length settings
unfolding list_check
plane_long settings is e = list_long 11 8 _ settings is e

pub frame_long : (settings : List ℤ) {a : Answer} → a ≡ frameCheck settings → a ≡ Ok tt → 15 ≤ length settings
unfolding frameCheck
frame_long settings is e = list_long 15 6 _ settings is e

-- ---- both flags of a frame

pub no_flag : (l : List ℤ) {n : ℕ} → n ≡ count_at l 4 → 1 < n → false ≡ flags_ok l
unfolding flags_ok both
no_flag l e h = rw (← not_le (count_at l 4) 1 (rw e at h))

pub second_flag : (l : List ℤ) {n m : ℕ} → n ≡ count_at l 4 → n ≤ 1 → m ≡ count_at l 5 → leb m 1 ≡ flags_ok l
unfolding flags_ok both
second_flag l e h f = rw (← is_le (count_at l 4) 1 (rw e at h)) (ap (λ (k : ℕ). leb k 1) f)

-- ---- keep marks over a rectangle

module _ (settings : List ℤ) where
  pub rectangle_short : length settings < 6 → Err Length ≡ rectangle_check settings
  unfolding rectangle_check listed
  rectangle_short h = stop _ _ (unless_bad _ _ (not_le 6 (length settings) h))

  module _ (enough : 6 ≤ length settings) {u : Bool} (asked : u ≡ rectangle_ok settings) where
    pub rectangle_below : not u ≡ true → Err Size ≡ rectangle_check settings
    unfolding rectangle_check listed
    rectangle_below f = go_on _ _ _ (unless_good _ _ (is_le 6 (length settings) enough)) (unless_bad _ _ (told_no_not _ _ asked f))

    pub rectangle_good : not u ≡ false → Ok tt ≡ rectangle_check settings
    unfolding rectangle_check listed
    rectangle_good f = go_on _ _ _ (unless_good _ _ (is_le 6 (length settings) enough)) (unless_good _ _ (told_yes_not _ _ asked f))

  -- a list that passes has its six numbers
  pub rectangle_long : {a : Answer} → a ≡ rectangle_check settings → a ≡ Ok tt → 6 ≤ length settings
  unfolding rectangle_check listed
  rectangle_long is e = leb-true 6 (length settings) (unless_true _ Length (else_parts _ _ (sym is ∙ e)).0)
