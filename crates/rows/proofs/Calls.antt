-- A call: its checks in their order, and the entry's statement at each way out.
-- Assumes nothing.
use mathlib.Core.Path.{◌≡◌, refl, sym, ap, ◌∙◌}
use mathlib.Core.Bool.{Bool, true, false, not}
use mathlib.Core.List.{List}
use Prim.Native.Nat.{ℕ, ◌+◌, ◌-◌, ◌*◌, ◌/◌, ◌%◌, ◌≤◌}
use native.Mathlib.Nat.{le_trans, mul-le-mul, mul-le-mul_right}
use native.Mathlib.Omega.{arith}
use borrow.Author.Tests.{leb-true, eqb-true}
use lib.ListN.{length}
use mir.Val.{Fits}
use mir.Syntax.{w64}
use Rattle.laws.specs.Choose.{is_eq, not_eq, pick_yes, pick_no, all_parts, both_parts, told_yes_not, told_no_not}
use Rattle.rules.specs.declared.settings.Plane.{Plane}
use Rattle.rules.specs.declared.rows.RowState.{RowState}
use Rattle.rules.specs.declared.refusals.Refusal.{Refusal}
use Rattle.rules.specs.declared.refusals.Refusal.TheVariants.{Filled, Spent, Sample}
use Rattle.rules.specs.Refusals.{Answer}
use Rattle.std.specs.declared.result.Result.TheVariants.{Ok, Err}
use Rattle.std.specs.declared.option.Option.{Option}
use Rattle.std.specs.declared.option.Option.TheVariants.{Some, None}
use Rattle.rules.specs.Numbers.{depth_ok}
use Rattle.rules.specs.Refusals.{number_of}
use Rattle.rules.specs.Plane.{Grid}
use Rattle.rules.specs.Rows.{count_ok, counts_ok, settings_check, over_new, rows_check, rows_after, rows_stored, rows_changed, spent_by, state_after, rows_state, final_of, rows_final, call_edges}
use Rattle.checks.specs.Rows.{Box}
use Rattle.checks.proofs.Rows.{box_inner}
use Rattle.checks.proofs.Checks.{stop, stop_by, go_on, go_on_by, unless_bad, unless_good, found_bad_by, found_good_by, else_parts, unless_true, found_nothing, settle_refused, settle_accepted}
use Rattle.rules.specs.declared.counts.Visited.{Visited}
use Rattle.plane.specs.Checked.{Checked}
use Rattle.plane.proofs.Accepting.{settled}
use Rattle.cell_edges.specs.Cells.{Sizes}
use Rattle.bands.specs.Ran.{RanBand}
use Rattle.rows.specs.Stated.{Stated}

-- ---- good counts

pub record Counts (rows held filled : ℕ) : Type 0 where
  pub held_most : held ≤ 4 * rows
  pub held_fours : held % 4 ≡ 0
  pub filled_most : filled ≤ 4 * rows
  pub filled_fours : filled % 4 ≡ 0
  pub up : held ≤ filled

pub counts_of : (rows held filled : ℕ) → counts_ok rows held filled ≡ true → Counts rows held filled
unfolding counts_ok count_ok
counts_of rows held filled e =
    let p1 = all_parts _ _ e in
    let p2 = all_parts _ _ p1.1 in
    let p3 = all_parts _ _ p2.1 in
    let h = both_parts _ _ p1.0 in
    let f = both_parts _ _ p2.0 in
    record {
      held_most = leb-true _ _ h.0;
      held_fours = eqb-true _ _ h.1;
      filled_most = leb-true _ _ f.0;
      filled_fours = eqb-true _ _ f.1;
      up = leb-true _ _ p3.0;
    }

-- ---- an accepted call

pub record Passed (s : Plane) (steps : List ℕ) (g : Grid) (st : RowState) (filled : ℕ) (l : List ℕ) : Type 0 where
  pub unspent : st.spent ≡ false
  pub settings : settings_check s steps g (length l) ≡ Ok tt
  pub checks : Checked s steps g (length l)
  pub counts : Counts s.rows st.held filled
  pub low : over_new s st.held filled l ≡ None

pub passed : (s : Plane) (steps : List ℕ) (g : Grid) (st : RowState) (filled : ℕ) (l : List ℕ) → rows_check s steps g st filled l ≡ Ok tt → Passed s steps g st filled l
unfolding rows_check
passed s steps g st filled l e =
    let p1 = else_parts _ _ e in
    let p2 = else_parts _ _ p1.1 in
    let p3 = else_parts _ _ p2.1 in
    record {
      unspent = clear st.spent (unless_true _ Spent p1.0);
      settings = p2.0;
      checks = settled s steps g (length l) p2.0;
      counts = counts_of s.rows st.held filled (unless_true _ Filled p3.0);
      low = found_nothing _ Sample p3.1;
    }
  where
    clear : (b : Bool) → not b ≡ true → b ≡ false
    clear true h = sym h
    clear false h = refl

-- ---- the check of the new samples

new_inside : (rows stride held filled size : ℕ) → held ≤ filled → filled ≤ 4 * rows → 4 * rows * stride ≤ size → (held + (filled - held)) * stride ≤ size
new_inside rows stride held filled size up most long =
    let e : held + (filled - held) ≡ filled = omega arith in
    rw e (le_trans (mul-le-mul_right stride most) long)

-- where the new rows start, and that they lie in the plane
pub new_fits : {s : Plane} {held : ℕ} → Sizes s → held ≤ 4 * s.rows → Fits w64 (held * s.stride)
new_fits {s} {held} z h =
    record { fits = omega (arith, mul-le-mul {n₁ = held} {m₁ = s.stride} {n₂ = 4096} {m₂ = 8192} (omega (arith, h, z.rows_most)) z.stride_most) }

pub new_box : {s : Plane} {held filled size : ℕ} → Sizes s → held ≤ filled → filled ≤ 4 * s.rows → 4 * s.rows * s.stride ≤ size
    → Box (held * s.stride) s.stride (4 * s.cols) (filled - held) size
new_box {s} {held} {filled} {size} z up most long =
    let e : held * s.stride + 0 ≡ held * s.stride = omega arith in
    rw e at (box_inner 0 held {stride = s.stride} {count = 4 * s.cols} {rows = filled - held} {size = size} (omega (arith, z.wide)) (new_inside s.rows s.stride held filled size up most long))

-- ---- the checks, as the code comes by them

-- what the check of the new samples asks
pub new_asks : {s : Plane} {n : ℕ} → Sizes s × (depth_ok s.depth ≡ true) × (4 * s.rows * s.stride ≤ n) → (held filled : ℕ) {b : Bool} → b ≡ counts_ok s.rows held filled → not b ≡ false
    → Sizes s × (depth_ok s.depth ≡ true) × (4 * s.rows * s.stride ≤ n) × (held ≤ filled) × (filled ≤ 4 * s.rows)
new_asks {s} k held filled of e = let c = counts_of s.rows held filled (sym (told_yes_not _ _ of e)) in (k.0, k.1, k.2, c.up, c.filled_most)

module _ (s : Plane) (steps : List ℕ) (g : Grid) (st : RowState) (filled : ℕ) (l : List ℕ) where
  pub spent_refused : st.spent ≡ true → Err Spent ≡ rows_check s steps g st filled l
  unfolding rows_check
  spent_refused e = stop _ _ (unless_bad _ _ (ap not (sym e)))

  module _ (unspent : st.spent ≡ false) {a : Answer} (is : a ≡ settings_check s steps g (length l)) where
    pub settings_refused : {r : Refusal} → a ≡ Err r → Err r ≡ rows_check s steps g st filled l
    unfolding rows_check
    settings_refused e = go_on _ _ _ (unless_good _ _ (ap not (sym unspent))) (stop_by _ _ _ is e)

    module _ (good : a ≡ Ok tt) {b : Bool} (of : b ≡ counts_ok s.rows st.held filled) where
      pub counts_refused : not b ≡ true → Err Filled ≡ rows_check s steps g st filled l
      unfolding rows_check
      counts_refused e = go_on _ _ _ (unless_good _ _ (ap not (sym unspent))) (go_on_by _ _ _ _ is good (stop _ _ (unless_bad _ _ (told_no_not _ _ of e))))

      module _ (fits : not b ≡ false) {f : Option ℕ} (new : f ≡ over_new s st.held filled l) where
        pub sample_refused : {k : ℕ} → f ≡ Some k → Err (Sample k) ≡ rows_check s steps g st filled l
        unfolding rows_check
        sample_refused e =
            go_on _ _ _ (unless_good _ _ (ap not (sym unspent)))
            (go_on_by _ _ _ _ is good (go_on _ _ _ (unless_good _ _ (told_yes_not _ _ of fits)) (found_bad_by _ _ _ _ new e refl)))

        pub call_accepted : f ≡ None → Ok tt ≡ rows_check s steps g st filled l
        unfolding rows_check
        call_accepted e =
            go_on _ _ _ (unless_good _ _ (ap not (sym unspent)))
            (go_on_by _ _ _ _ is good (go_on _ _ _ (unless_good _ _ (told_yes_not _ _ of fits)) (found_good_by _ _ _ new e)))

-- ---- the entry

-- the state after a refusal of that number
module _ {n : ℕ} (r : Refusal) (st : RowState) (is : n ≡ number_of r) where
  pub spends : n ≡ 8 → record { held = st.held; spent = true } ≡ spent_by r st
  unfolding spent_by
  spends e = pick_yes _ _ _ _ (is_eq _ _ (sym is ∙ e)) refl

  pub stays : (n ≡ 8 → ⊥) → st ≡ spent_by r st
  unfolding spent_by
  stays e = pick_no _ _ _ _ (not_eq _ _ (λ q. e (is ∙ q))) refl

module _ (s : Plane) (steps : List ℕ) (g : Grid) (st : RowState) (filled : ℕ) (l : List ℕ) {a : Answer} (is : a ≡ rows_check s steps g st filled l) where
  pub stated_refused : {r : Refusal} → a ≡ Err r → {t : RowState} → t ≡ spent_by r st
      → Stated s steps g st filled l (record { answer = Err r; stored = 0; changed = 0; state = t; finalrows = 0 }) l
  unfolding rows_after rows_stored rows_changed rows_state rows_final state_after
  stated_refused e next = record {
    answer = sym e ∙ is;
    plane = settle_refused _ _ _ (sym e ∙ is);
    stored = settle_refused _ _ _ (sym e ∙ is);
    changed = settle_refused _ _ _ (sym e ∙ is);
    state = next ∙ ap (λ (x : Answer). state_after x st filled) (sym e ∙ is);
    final_rows = settle_refused _ _ _ (sym e ∙ is);
  }

  pub passed_by : a ≡ Ok tt → Passed s steps g st filled l
  passed_by e = passed s steps g st filled l (sym is ∙ e)

  -- what the run asks
  pub band_asks : a ≡ Ok tt → Checked s steps g (length l) × (st.held / 4 ≤ filled / 4) × (filled / 4 ≤ s.rows)
  band_asks e =
      let p = passed_by e in
      (p.checks, omega (arith, p.counts.up), omega (arith, p.counts.filled_most))

  pub stated_run : {v : Visited} {m : List ℕ} {f : ℕ} → a ≡ Ok tt → RanBand s steps g (st.held / 4) (filled / 4) l v m → f ≡ final_of s.rows filled
      → Stated s steps g st filled l (record { answer = Ok tt; stored = v.stored; changed = v.changed; state = record { held = filled; spent = false }; finalrows = f }) m
  unfolding rows_after rows_stored rows_changed rows_state rows_final state_after call_edges
  stated_run e run final = record {
    answer = sym e ∙ is;
    plane = settle_accepted _ _ _ _ (sym e ∙ is) run.plane;
    stored = settle_accepted _ _ _ _ (sym e ∙ is) run.stored;
    changed = settle_accepted _ _ _ _ (sym e ∙ is) run.changed;
    state = ap (λ (x : Answer). state_after x st filled) (sym e ∙ is);
    final_rows = settle_accepted _ _ _ _ (sym e ∙ is) final;
  }
