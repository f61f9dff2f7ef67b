-- A place by what its callees found. Assumes nothing.
use mathlib.Core.Path.{◌≡◌, refl, sym, ◌∙◌}
use mathlib.Core.Bool.{Bool, true, false, not}
use mathlib.Core.List.{List}
use Prim.Native.Nat.{ℕ, ◌+◌, ◌*◌, ◌/◌, ◌≤◌, ◌<◌}
use borrow.Author.Tests.{not-false}
use native.Mathlib.Omega.{arith}
use lib.Dec.{ltb}
use lib.ListN.{get_or, length, get_or-eq_default}
use Rattle.laws.specs.Choose.{both_ok, pick_no, not_lt, not_le, tests}
use Rattle.std.specs.declared.option.Option.{Option}
use Rattle.std.specs.declared.option.Option.TheVariants.{Some, None}
use Rattle.rules.specs.Numbers.{depth_ok, top_of}
use Rattle.by_settings.specs.Places.{place, over_top, leaf_place, if_found}

-- ---- a callee's answer e to the search f

module _ {A : Type 0} (f e : Option ℕ) (a b x : A) where
  pub when_found : {k : ℕ} → e ≡ f → e ≡ Some k → x ≡ a → x ≡ if_found f a b
  unfolding if_found
  when_found told at g = rw (← told, at) g

  pub when_nothing : e ≡ f → e ≡ None → x ≡ b → x ≡ if_found f a b
  unfolding if_found
  when_nothing told none g = rw (← told, none) g

-- ---- a sample above the depth's top

pub is_depth : (depth : ℕ) (u : Bool) → u ≡ depth_ok depth → not u ≡ false → depth_ok depth ≡ true
is_depth depth u e f = sym e ∙ not-false u f

-- a sample that the plane lacks
pub none_over : (depth k : ℕ) (xs : List ℕ) → depth_ok depth ≡ true → length xs ≤ k → false ≡ over_top depth xs k
unfolding over_top
none_over depth k xs d h =
    both_ok _ _ false (sym d) (not_lt (top_of depth) (get_or xs k 0) (rw (get_or-eq_default xs 0 h) (omega arith)))

pub compared : (depth k : ℕ) (xs : List ℕ) (top : ℕ) → depth_ok depth ≡ true → top ≡ top_of depth → ltb top (get_or xs k 0) ≡ over_top depth xs k
unfolding over_top
compared depth k xs top d e = both_ok _ _ _ (sym d) (rw e refl)

-- ---- a leaf that the list has

pub leaf_read : (plane k : ℕ) (xs : List ℕ) (row column : ℕ) → k < length xs / 4 → row ≡ get_or xs (k * 4) 0 → column ≡ get_or xs (k * 4 + 1) 0 → place plane row column ≡ leaf_place plane xs k
unfolding leaf_place
leaf_read plane k xs row column h e g = pick_no _ _ _ _ (not_le (length xs / 4) k h) (rw (e, g))

pub ruleset placing = (tests, when_found, when_nothing, is_depth, none_over, compared, leaf_read)
