-- How a count's parts, as the code finds them, make the count. Assumes nothing.
use Rattle.std.proofs.Common.{◌≡◌, ℕ, ◌<◌, ◌≤◌, Bool, true, false, not, eqb, ltb, get_or, set, sym, refl, ap, ◌∙◌, rules}
use mathlib.Core.Logic.{◌⊎◌, inl, inr}
use borrow.Author.Tests.{not-true, not-false}
use Rattle.laws.specs.Choose.{both, pick_yes, pick_no, both_bad, both_ok, is_lt, not_lt, is_eq, not_eq}
use Rattle.rules.specs.Refusals.{number_of, place_refused}
use Rattle.rules.specs.declared.refusals.Refusal.{Refusal}
use Rattle.std.specs.declared.result.Result.{Result}
use Rattle.rules.specs.declared.counts.Counts.{Counts}
use Rattle.rules.specs.Refusals.{Answer}
use Rattle.std.specs.declared.result.Result.TheVariants.{Ok, Err}
use Rattle.tally.specs.declared.Tally.{Tally}
use Rattle.tally.specs.Counts.{next_of, bumped, counts, unread_more, no_case, different_more, number_more, case_more, width_more, is_refusal, is_answer, is_counted, is_counted_beside}

pub unread_counted : (t : Tally) (v : ℕ) → v ≡ next_of t.unread → counts t.numbers t.widths t.different v ≡ unread_more t
unfolding unread_more
unread_counted t v e = ap (λ (x : ℕ). counts t.numbers t.widths t.different x) e

pub line_read : (t : Tally) (b : Bool) → not b ≡ false → t ≡ no_case t b
unfolding no_case
line_read t b e = pick_yes _ _ _ _ (sym (not-false b e)) refl

pub line_unread : (t r : Tally) (b : Bool) → not b ≡ true → r ≡ unread_more t → r ≡ no_case t b
unfolding no_case
line_unread t r b e f = pick_no _ _ _ _ (sym (not-true b e)) f

pub number_counted : (t : Tally) (n v : ℕ) → n < 21 → v ≡ next_of (get_or t.numbers n 0)
    → counts (set t.numbers n v) t.widths t.different t.unread ≡ number_more t n
unfolding number_more bumped
number_counted t n v h e =
    pick_yes _ _ _ _ (is_lt n 21 h) (ap (λ (x : ℕ). counts (set t.numbers n x) t.widths t.different t.unread) e)

pub number_unknown : (t r : Tally) (n : ℕ) → 21 ≤ n → r ≡ unread_more t → r ≡ number_more t n
unfolding number_more
number_unknown t r n h e = pick_no _ _ _ _ (not_lt n 21 h) e

pub case_same : (t u : Tally) (n : ℕ) (s : Bool) → u ≡ number_more t n → not s ≡ false → u ≡ case_more t n s
unfolding case_more
case_same t u n s e h = pick_yes _ _ _ _ (sym (not-false s h)) e

pub case_different : (t u : Tally) (n v : ℕ) (s : Bool) → u ≡ number_more t n → v ≡ next_of u.different → not s ≡ true
    → counts u.numbers u.widths v u.unread ≡ case_more t n s
unfolding case_more different_more
case_different t u n v s e f h =
    pick_no _ _ _ _ (sym (not-true s h))
    (ap (λ (x : ℕ). counts u.numbers u.widths x u.unread) f
    ∙ ap (λ (x : Tally). counts x.numbers x.widths (next_of x.different) x.unread) e)

pub width_counted : (t : Tally) (w v : ℕ) → w < 9 → v ≡ next_of (get_or t.widths w 0)
    → counts t.numbers (set t.widths w v) t.different t.unread ≡ width_more t w
unfolding width_more bumped
width_counted t w v h e =
    pick_yes _ _ _ _ (is_lt w 9 h) (ap (λ (x : ℕ). counts t.numbers (set t.widths w x) t.different t.unread) e)

pub width_unknown : (t : Tally) (w : ℕ) → 9 ≤ w → t ≡ width_more t w
unfolding width_more
width_unknown t w h = pick_no _ _ _ _ (not_lt w 9 h) refl

-- another number, and the number: then the place decides
pub refusal_other : (r : Refusal) (m n k : ℕ) → m ≡ number_of r → (m ≡ n → ⊥) → false ≡ is_refusal r n k
unfolding is_refusal
refusal_other r m n k e h = both_bad _ _ (not_eq (number_of r) n (λ f. h (e ∙ f)))

pub refusal_placed : (r : Refusal) (m n p k : ℕ) → m ≡ number_of r → m ≡ n → p ≡ place_refused r → eqb p k ≡ is_refusal r n k
unfolding is_refusal
refusal_placed r m n p k e f g = both_ok _ _ _ (is_eq (number_of r) n (sym e ∙ f)) (ap (λ (x : ℕ). eqb x k) g)

-- both counts: then the answer decides; and another count
both_counts : (a : Answer) (x y n k s t : ℕ) {b : Bool} → (x ≡ s) × (y ≡ t) → b ≡ is_answer a n k → b ≡ both (eqb x s) (both (eqb y t) (is_answer a n k))
both_counts a x y n k s t p e = both_ok _ _ _ (is_eq x s p.0) (both_ok _ _ _ (is_eq y t p.1) e)

other_count : (a : Answer) (x y n k s t : ℕ) {b : Bool} → b ≡ false → ((x ≡ s) × (y ≡ t → ⊥)) ⊎ (x ≡ s → ⊥) → b ≡ both (eqb x s) (both (eqb y t) (is_answer a n k))
other_count a x y n k s t off (inl p) = off ∙ both_ok _ _ _ (is_eq x s p.0) (both_bad _ _ (not_eq y t p.1))
other_count a x y n k s t off (inr h) = off ∙ both_bad _ _ (not_eq x s h)

module _ {a : Result Counts Refusal} (n k s t : ℕ) {b : Bool} where
  pub accepted_same : {c : Counts} → a ≡ Ok c → (c.stored ≡ s) × (c.changed ≡ t) → b ≡ eqb n 0 → b ≡ is_counted a n k s t
  unfolding is_counted is_answer
  accepted_same {c} e p h = rw e (both_counts (Ok tt) c.stored c.changed n k s t p h)

  pub accepted_other : {c : Counts} → a ≡ Ok c → b ≡ false → ((c.stored ≡ s) × (c.changed ≡ t → ⊥)) ⊎ (c.stored ≡ s → ⊥) → b ≡ is_counted a n k s t
  unfolding is_counted
  accepted_other {c} e off h = rw e (other_count (Ok tt) c.stored c.changed n k s t off h)

  pub refused_same : {r : Refusal} → a ≡ Err r → (s ≡ 0) × (t ≡ 0) → b ≡ is_refusal r n k → b ≡ is_counted a n k s t
  unfolding is_counted is_answer
  refused_same {r} e p h = rw e (both_counts (Err r) 0 0 n k s t (sym p.0, sym p.1) h)

  pub refused_other : {r : Refusal} → a ≡ Err r → b ≡ false → ((s ≡ 0) × (t ≡ 0 → ⊥)) ⊎ (s ≡ 0 → ⊥) → b ≡ is_counted a n k s t
  unfolding is_counted
  refused_other {r} e off (inl p) = rw e (other_count (Err r) 0 0 n k s t off (inl (sym p.0, λ h. p.1 (sym h))))
  refused_other {r} e off (inr h) = rw e (other_count (Err r) 0 0 n k s t off (inr (λ e. h (sym e))))

-- the same of counts that stand beside an answer
module _ (a : Answer) (c : Counts) (n k s t : ℕ) {b : Bool} where
  pub beside_same : (c.stored ≡ s) × (c.changed ≡ t) → b ≡ is_answer a n k → b ≡ is_counted_beside a c n k s t
  unfolding is_counted_beside
  beside_same p h = both_counts a c.stored c.changed n k s t p h

  pub beside_other : b ≡ false → ((c.stored ≡ s) × (c.changed ≡ t → ⊥)) ⊎ (c.stored ≡ s → ⊥) → b ≡ is_counted_beside a c n k s t
  unfolding is_counted_beside
  beside_other off h = other_count a c.stored c.changed n k s t off h

pub ruleset counting =
    (rules, unread_counted, line_read, line_unread, number_counted, number_unknown, case_same, case_different, width_counted, width_unknown, refusal_other, refusal_placed)
