-- A call's state as a list: what the check of both lists says at each of its ways out, that lists which pass have their numbers, and the state that is held.
-- Assumes nothing.
use mathlib.Core.Path.{◌≡◌, refl, sym, ap, ◌∙◌}
use mathlib.Core.Bool.{Bool, true, false}
use mathlib.Core.List.{List}
use Prim.Native.Nat.{ℕ, ◌≤◌, ◌<◌}
use borrow.Author.Tests.{leb-true}
use lib.ListN.{length, get_or, set}
use lib.IntN.{ℤ}
use Rattle.laws.specs.Choose.{pick, is_le, not_le, is_eq, not_eq}
use Rattle.rules.specs.declared.rows.RowState.{RowState}
use Rattle.rules.specs.declared.refusals.Refusal.TheVariants.{Length, Spent}
use Rattle.rules.specs.Refusals.{Answer}
use Rattle.std.specs.declared.result.Result.TheVariants.{Ok, Err}
use Rattle.checks.proofs.Checks.{stop, go_on, unless_bad, unless_good, unless_true, else_parts}
use Rattle.by_list.specs.Planes.{list_check}
use Rattle.by_list.specs.Rows.{lists_check, held_by}
use Rattle.by_list.proofs.Lists.{plane_long}

-- ---- the lists, at each way out of their check

module _ (settings : List ℤ) (st : List ℕ) where
  pub state_short : length st < 2 → Err Length ≡ lists_check settings st
  unfolding lists_check
  state_short h = stop _ _ (unless_bad _ _ (not_le 2 (length st) h))

  module _ (enough : 2 ≤ length st) where
    pub state_spent : (get_or st 1 0 ≡ 0 → ⊥) → Err Spent ≡ lists_check settings st
    unfolding lists_check
    state_spent n = go_on _ _ _ (unless_good _ _ (is_le 2 (length st) enough)) (stop _ _ (unless_bad _ _ (not_eq (get_or st 1 0) 0 n)))

    pub state_good : get_or st 1 0 ≡ 0 → {a : Answer} → a ≡ list_check settings → a ≡ lists_check settings st
    unfolding lists_check
    state_good e is = go_on _ _ _ (unless_good _ _ (is_le 2 (length st) enough)) (go_on _ _ _ (unless_good _ _ (is_eq (get_or st 1 0) 0 e)) is)

  -- lists that pass have their numbers
  module _ {a : Answer} (is : a ≡ lists_check settings st) (e : a ≡ Ok tt) where
    pub state_long : 2 ≤ length st
    unfolding lists_check
    state_long = leb-true 2 (length st) (unless_true _ Length (else_parts _ _ (sym is ∙ e)).0)

    pub settings_long : 11 ≤ length settings
    unfolding lists_check
    settings_long = plane_long settings refl (else_parts _ _ (else_parts _ _ (sym is ∙ e)).1).1

-- ---- the state that is left

module _ (t : RowState) (st : List ℕ) where
  pub held_spent : t.spent ≡ true → set (set st 0 t.held) 1 1 ≡ held_by t st
  unfolding held_by pick
  held_spent e = sym (ap (λ (b : Bool). pick b (set (set st 0 t.held) 1 1) (set st 0 t.held)) e)

  pub held_unspent : t.spent ≡ false → set st 0 t.held ≡ held_by t st
  unfolding held_by pick
  held_unspent e = sym (ap (λ (b : Bool). pick b (set (set st 0 t.held) 1 1) (set st 0 t.held)) e)
