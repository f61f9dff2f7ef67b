-- What C is told of a call on filled rows by its lists, and that its statement allows one result.
-- Assumes nothing.
use mathlib.Core.Path.{◌≡◌, refl, sym, ap, ap₂, ◌∙◌}
use mathlib.Core.Bool.{Bool, true, false}
use mathlib.Core.List.{List, [], ◌∷◌}
use Prim.Native.Nat.{ℕ, ◌≤◌, ◌<◌}
use native.Mathlib.Omega.{arith}
use borrow.Author.Rules.{rules}
use lib.Dec.{eqb}
use lib.ListN.{get_or, set}
use lib.IntN.{ℤ}
use mir.Syntax.{w32}
use mir.Val.{to_z, of_z}
use Rattle.laws.specs.Choose.{pick}
use Rattle.rules.specs.declared.settings.Plane.{Plane}
use Rattle.rules.specs.declared.rows.RowState.{RowState}
use Rattle.rules.specs.declared.rows.RowsAnswer.{RowsAnswer}
use Rattle.rules.specs.declared.refusals.Refusal.{Refusal}
use Rattle.rules.specs.declared.refusals.Refusal.TheVariants.{Depth, Size, Length, Spent}
use Rattle.rules.specs.Refusals.{Answer}
use Rattle.std.specs.declared.result.Result.TheVariants.{Ok, Err}
use Rattle.rules.specs.Refusals.{number_of, or_else, unless, settle}
use Rattle.rules.specs.Plane.{Grid}
use Rattle.rules.specs.Rows.{final_of, rows_check, rows_final, spent_by, state_after, rows_state}
use Rattle.checks.proofs.Checks.{stop_by, go_on_by, settle_refused, settle_accepted}
use Rattle.rows.specs.Stated.{Stated}
use Rattle.rows.proofs.Final.{final_in}
use Rattle.rows.proofs.Calls.{passed}
use Rattle.answers.specs.Told.{listed, tallied, Counted, Told}
use Rattle.answers.proofs.Numbers.{counted_on, refused_by_holds}
use Rattle.answers.proofs.Unique.{counted_unique}
use Rattle.numbers.specs.Settings.{plane_of}
use Rattle.by_list.specs.Planes.{list_check}
use Rattle.by_list.specs.Rows.{lists_check, unspent, held_by, c_rows_check, c_rows_plane, c_rows_stored, c_rows_changed, c_rows_final, state_left, RowsTold}
use Rattle.by_list.proofs.States.{state_long, settings_long}

-- ---- the state that is left

-- an answer spends the state
abbrev spends : Answer → Bool
spends (Ok tt) = false
spends (Err r) = eqb (number_of r) 8

-- the lists' own refusals do not
each_way : (a b c d e : Bool) → spends (or_else (unless a Length) (or_else (unless b Spent) (or_else (unless c Length) (or_else (unless d Depth) (unless e Size))))) ≡ false
unfolding or_else unless
each_way false b c d e = refl
each_way true false c d e = refl
each_way true true false d e = refl
each_way true true true false e = refl
each_way true true true true false = refl
each_way true true true true true = refl

lists_spare : (settings : List ℤ) (st : List ℕ) → spends (lists_check settings st) ≡ false
unfolding lists_check list_check listed
lists_spare settings st = each_way _ _ _ _ _

-- the number that stands there already
set_own : (st : List ℕ) → set st 0 (get_or st 0 0) ≡ st
set_own [] = refl
set_own (x ∷ st) = refl

state_left_holds : (st : List ℕ) (a : Answer) (filled : ℕ) → held_by (state_after a (unspent st) filled) st ≡ state_left a st filled
unfolding held_by state_after state_left spent_by pick
state_left_holds st (Ok tt) filled = refl
state_left_holds st (Err r) filled = go (eqb (number_of r) 8)
  where
    go : (b : Bool) → held_by (pick b (record { held = get_or st 0 0; spent = true }) (unspent st)) st ≡ pick b (set st 1 1) st
    go true = ap (λ (x : List ℕ). set x 1 1) (set_own st)
    go false = set_own st

-- no more rows are final than a plane has
final_few : (s : Plane) (steps : List ℕ) (g : Grid) (was : RowState) (filled : ℕ) (l : List ℕ) → rows_final s steps g was filled l ≤ 4096
unfolding rows_final settle
final_few s steps g was filled l = go (rows_check s steps g was filled l) refl
  where
    go : (x : Answer) → rows_check s steps g was filled l ≡ x → settle x 0 (final_of s.rows filled) ≤ 4096
    go (Ok tt) e = omega (arith, final_in s.rows filled, (passed s steps g was filled l e).checks.sizes_ok.rows_most)
    go (Err r) e = omega arith

-- the rows that are final are a number that C's answer holds
pub rows_few : (s : Plane) (steps : List ℕ) (g : Grid) (was : RowState) (filled : ℕ) (l : List ℕ) {x : RowsAnswer} {m : List ℕ} → Stated s steps g was filled l x m → x.finalrows < 2147483648
rows_few s steps g was filled l d = omega (arith, d.final_rows, final_few s steps g was filled l)

-- ---- what C is told

module _ (settings : List ℤ) (steps : List ℕ) (g : Grid) (st : List ℕ) (filled : ℕ) (l : List ℕ) {a : Answer} (is : a ≡ lists_check settings st) {p q k c : List ℕ} {z : ℤ} where
  pub rows_refused : {r : Refusal} → a ≡ Err r → Told (Err r) p z q × (c ≡ tallied 0 0 k) → RowsTold settings steps g st filled l p k (to_z w32 (of_z w32 z)) l st q c
  unfolding c_rows_check c_rows_plane c_rows_stored c_rows_changed c_rows_final state_left pick
  rows_refused {r} e u =
      let no : Err r ≡ lists_check settings st = sym e ∙ is in
      let all : Err r ≡ c_rows_check settings steps g st filled l = stop_by _ _ _ is e in
      record {
        told = refused_by_holds _ all u.0;
        plane = settle_refused _ _ _ no;
        state = sym (ap (λ (b : Bool). pick b (set st 1 1) st) (ap spends no ∙ lists_spare settings st)) ∙ ap (λ (x : Answer). state_left x st filled) all;
        counts_are = u.1 ∙ ap₂ (λ (s c : ℕ). tallied s c k) (settle_refused _ _ _ no) (settle_refused _ _ _ no);
      }

  pub rows_told : {s : Plane} {held : ℕ} {x : RowsAnswer} {m t : List ℕ} → a ≡ Ok tt → s ≡ plane_of settings → held ≡ get_or st 0 0
      → Stated s steps g (record { held = held; spent = false }) filled l x m → t ≡ held_by x.state st
      → Counted x.answer x.finalrows p z q × (c ≡ tallied x.stored x.changed k)
      → RowsTold settings steps g st filled l p k (to_z w32 (of_z w32 z)) m t q c
  unfolding c_rows_check c_rows_plane c_rows_stored c_rows_changed c_rows_final rows_state
  rows_told {s} {held} {x} {m} {t} e read first said next u =
      let w : Stated (plane_of settings) steps g (unspent st) filled l x m = rw (read, first) at said in
      let yes : Ok tt ≡ lists_check settings st = sym e ∙ is in
      let own : rows_check (plane_of settings) steps g (unspent st) filled l ≡ c_rows_check settings steps g st filled l = go_on_by _ _ _ _ is e refl in
      record {
        told = counted_on (w.answer ∙ own) (settle_accepted _ _ _ _ yes w.final_rows) (rows_few _ _ _ _ _ _ w) u.0;
        plane = settle_accepted _ _ _ _ yes w.plane;
        state = next ∙ ap (λ (u : RowState). held_by u st) w.state ∙ state_left_holds st (rows_check (plane_of settings) steps g (unspent st) filled l) filled ∙ ap (λ (x : Answer). state_left x st filled) own;
        counts_are = u.1 ∙ ap₂ (λ (s c : ℕ). tallied s c k) (settle_accepted _ _ _ _ yes w.stored) (settle_accepted _ _ _ _ yes w.changed);
      }

pub ruleset fillings = (rules, state_long, settings_long, rows_few, rows_refused, rows_told)

-- ---- two results that the statement allows are equal

module _ {settings : List ℤ} {steps : List ℕ} {g : Grid} {st : List ℕ} {filled : ℕ} {l : List ℕ} where
  pub told_once : {place counts : List ℕ} {r s : ℤ} {m n t u p q c d : List ℕ}
      → RowsTold settings steps g st filled l place counts r m t p c
      → RowsTold settings steps g st filled l place counts s n u q d
      → (r ≡ s) × (m ≡ n) × (t ≡ u) × (p ≡ q) × (c ≡ d)
  told_once x y =
      let e = counted_unique x.told y.told in
      (e.0, x.plane ∙ sym y.plane, x.state ∙ sym y.state, e.1, x.counts_are ∙ sym y.counts_are)
